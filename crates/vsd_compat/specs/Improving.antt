-- A step that may set bits, of which each is right.
use Rattle.std.specs.Prelude.{◌≡◌, ℕ, ◌≤◌, sum}
use Rattle.vsd_types.specs.TypeList.{TypeList}
use Rattle.vsd_compat.specs.declared.matrix.Matrix.{Matrix}
use Rattle.vsd_compat.specs.Matrices.{bits_of, IsSet}
use Rattle.vsd_compat.specs.Settling.{IsSound}

pub record Improves (c : TypeList) (old new : Matrix) : Type 0 where
  pub count : new.count ≡ old.count
  pub width : new.width ≡ old.width
  pub kept : (t u : ℕ) → IsSet (bits_of old) t u → IsSet (bits_of new) t u
  pub rises : sum old.words.items ≤ sum new.words.items
  pub sound : IsSound c (bits_of old) → IsSound c (bits_of new)
