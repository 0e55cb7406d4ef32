-- What a clause reads of the table and of a seat.
use Rattle.std.specs.Prelude.{◌≡◌, ℕ, List, [], ◌∷◌}
use mathlib.Core.Option.{some}
use lib.ListN.{get_elem?}
use Rattle.vsd_rule.specs.declared.key.Key.{Key}
use Rattle.vsd_rule.specs.declared.step.Begins.{Begins}
use Rattle.vsd_rule.specs.declared.step.Begins.TheVariants.{Operation}
use Rattle.vsd_rule.specs.declared.step.Doing.{Doing}
use Rattle.vsd_rule.specs.declared.view.View.{View}
use Rattle.vsd_rule.specs.Seats.{caller_of}
use Rattle.vsd_rule.specs.Moves.{caller_view}
use Rattle.vsd_table.specs.declared.shared.Shared.{Shared}
use Rattle.vsd_table.specs.declared.seated.Seated.{Seated}

-- what was fixed when the table was laid out
abbrev pub key_of : Shared → Key
key_of table = table.table.shared.key

-- what the caller knows
abbrev pub view_of : Seated → View
view_of seated = seated.seat.me.0

-- the seat is one of this table's
pub record Belongs (table : Shared) (seated : Seated) : Type 0 where
  pub table_id : seated.seat.table_id ≡ table.table.shared.table_id
  pub key : (view_of seated).key ≡ key_of table

-- what the caller has begun, the latest first
abbrev pub begun_of : Seated → List Begins
begun_of seated = seated.begun.items

-- a step of the seat, after which its view is this one, and it has begun these
pub record BecomesWith (old new : Seated) (after : View) (began : List Begins) : Type 0 where
  pub table_id : new.seat.table_id ≡ old.seat.table_id
  pub seat : new.seat.id ≡ old.seat.id
  pub view : view_of new ≡ after
  pub begins : begun_of new ≡ began

abbrev pub Becomes : Seated → Seated → View → Type 0
Becomes old new after = BecomesWith old new after (begun_of old)

-- the same of a step that begins an operation
abbrev pub BecomesDoing : Seated → Seated → View → Doing → Type 0
BecomesDoing old new after doing = BecomesWith old new after (Operation doing ∷ begun_of old)

-- a caller's seat of this table that has made no step
pub record IsNew (table : Shared) (seated : Seated) : Type 0 where
  pub belongs : Belongs table seated
  pub view : view_of seated ≡ caller_view (key_of table) (caller_of (view_of seated).who)
  pub begun : begun_of seated ≡ []

-- the seats are in order of their callers' numbers
abbrev pub AreNumbered : List Seated → Type 0
AreNumbered seats = (caller : ℕ) (s : Seated) → get_elem? seats caller ≡ some s → caller_of (view_of s).who ≡ caller
