-- How a matrix changes: bits are set, and none is cleared.
use Rattle.std.specs.Prelude.{◌≡◌, ℕ, ◌<◌, ◌⊎◌, Bool, true, false, sum}
use Rattle.vsd_compat.specs.declared.matrix.Matrix.{Matrix}
use Rattle.vsd_compat.specs.Matrices.{Bits, bits_of, IsSet}

-- a step that says whether it changed anything: where it did, the words add up to more
pub record Moves (old new : Matrix) (changed : Bool) : Type 0 where
  pub count : new.count ≡ old.count
  pub width : new.width ≡ old.width
  pub kept : (t u : ℕ) → IsSet (bits_of old) t u → IsSet (bits_of new) t u
  pub stays : changed ≡ false → bits_of new ≡ bits_of old
  pub grows : changed ≡ true → sum old.words.items < sum new.words.items

-- the bits of these two numbers are set, and no others
pub record Adds (count : ℕ) (old new : Bits) (These : ℕ → ℕ → Type 0) : Type 0 where
  pub added : (i j : ℕ) → i < count → j < count → These i j → IsSet new i j
  pub only : (i j : ℕ) → i < count → j < count → IsSet new i j → IsSet old i j ⊎ These i j
