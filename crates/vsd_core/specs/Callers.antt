-- What a clause reads of a caller.
use Rattle.std.specs.Prelude.{◌≡◌, ◌<◌, ℕ, List, [], length, replicate}
use mathlib.Core.Option.{some}
use lib.ListN.{get_elem?}
use Rattle.vsd_rule.specs.declared.view.View.{View}
use Rattle.vsd_rule.specs.Seats.{caller_of}
use Rattle.vsd_rule.specs.Handles.{blank_word, handle}
use Rattle.vsd_rule.specs.Lists.{host_type}
use Rattle.vsd_rule.specs.Facts.{Knows}
use Rattle.vsd_rule.specs.declared.key.Key.{Key}
use Rattle.vsd_table.specs.declared.shared.Shared.{Shared}
use Rattle.vsd_table.specs.declared.seated.Seated.{Seated}
use Rattle.vsd_table.specs.Seating.{key_of, view_of, IsNew}
use Rattle.vsd_trails.specs.Logs.{Entry}
use Rattle.vsd_trails.specs.Operations.{Event}
use Rattle.vsd_trails.specs.Laws.{HasLog}
use Rattle.vsd_rows.specs.Makes.{steps_of}
use Rattle.vsd_core.specs.Owning.{live_in, loads_in}
use Rattle.vsd_core.specs.declared.caller.Caller.{Caller}

-- the seat through which the caller makes its steps
abbrev pub seat_of : Caller → Seated
seat_of c = c.hand.seated

-- what the caller knows
abbrev pub known_by : Caller → View
known_by c = view_of (seat_of c)

-- the caller's operations, the latest first
abbrev pub LogIs : Key → Caller → List (Entry Event) → Type 0
LogIs k c entries = HasLog k (steps_of (seat_of c)) entries

-- A caller of this table that has made no step. It has loaded nothing, and knows of each host's handle which type it names.
pub record IsNewCaller (table : Shared) (c : Caller) : Type 0 where
  pub seat : IsNew table (seat_of c)
  pub log : LogIs (key_of table) c []
  pub blank : (known_by c).handles.owned ≡ replicate 64 blank_word
  pub live : live_in (known_by c).handles.owned ≡ 0
  pub loads : loads_in (known_by c).handles.owned ≡ 0
  pub hosts : (host : ℕ) → host < length (key_of table).world.host_types → Knows (known_by c).handles (handle host 1) (host_type (key_of table) host)

-- the callers are in order of their numbers
abbrev pub AreInOrder : List Caller → Type 0
AreInOrder callers = (number : ℕ) (c : Caller) → get_elem? callers number ≡ some c → caller_of (known_by c).who ≡ number
