-- What a clause reads of a runtime.
use Rattle.std.specs.Prelude.{◌≡◌, ◌<◌}
use Rattle.vsd_words.specs.declared.handle.Handle.{Handle}
use Rattle.vsd_rule.specs.declared.key.Key.{Key}
use Rattle.vsd_rule.specs.declared.resolver.Resolver.{Ghosts}
use Rattle.vsd_rule.specs.Layout.{handle_rows}
use Rattle.vsd_table.specs.declared.shared.Shared.{Shared}
use Rattle.vsd_table.specs.Seating.{key_of, Belongs}
use Rattle.vsd_core.specs.declared.caller.Caller.{Caller}
use Rattle.vsd_core.specs.declared.runtime.Runtime.{Runtime}
use Rattle.vsd_core.specs.Callers.{seat_of}

module _ {R : Type 0} {g : Ghosts R} where
  -- the words that all callers share
  abbrev pub table_of : Runtime R g → Shared
  table_of runtime = runtime.table

  -- what was fixed when the runtime was started
  abbrev pub fixed_in : Runtime R g → Key
  fixed_in runtime = key_of (table_of runtime)

  -- the caller is one of this runtime's
  abbrev pub IsCallerOf : Runtime R g → Caller → Type 0
  IsCallerOf runtime c = Belongs (table_of runtime) (seat_of c)

-- a handle of the table's rows; generation 0 names nothing
pub record HasHandle (k : Key) (h : Handle) : Type 0 where
  pub row : h.row < handle_rows k.sizes
  pub some : 0 < h.generation

-- a host's handle
pub record IsHost (k : Key) (h : Handle) : Type 0 where
  pub row : h.row < k.sizes.hosts
  pub generation : h.generation ≡ 1
