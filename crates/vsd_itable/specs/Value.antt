-- Tables as contracts see them.
use Rattle.std.specs.Prelude.{ℕ, List}
use Rattle.vsd_compat.specs.declared.matrix.Matrix.{Matrix}
use Rattle.vsd_slots.specs.declared.entries.ClosedMethod.{ClosedMethod}
use Rattle.vsd_types.specs.TypeList.{TypeList}
use Rattle.vsd_itable.specs.declared.targets.Targets.{Targets}

-- the closed list, the dispatch tokens (the number of an interface's type and a slot), the numbered methods, the target of each
-- type and token, and which type is compatible with which
pub record Value : Type 0 where
  pub closed : TypeList
  pub tokens : List (ℕ × ℕ)
  pub methods : List ClosedMethod
  pub targets : Targets
  pub matrix : Matrix
