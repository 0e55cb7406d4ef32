-- Matrices of bits, a row of words for each type.
use Rattle.std.specs.Prelude.{◌≡◌, ℕ, ◌+◌, ◌*◌, ◌/◌, ◌%◌, ◌<◌, ◌↔◌, List, length, slice_index}
use Rattle.std.specs.Int.{bit_at}
use Rattle.vsd_types.specs.TypeList.{TypeList}
use Rattle.vsd_types.specs.Types.{type_at}
use Rattle.vsd_compat.specs.Compatibility.{IsCompatible}
use Rattle.vsd_compat.specs.declared.matrix.Matrix.{Matrix}

-- the words of a matrix, each row as many as its width
pub record Bits : Type 0 where
  pub width : ℕ
  pub words : List ℕ

abbrev pub bits_of : Matrix → Bits
bits_of m = record { width = m.width; words = m.words.items }

-- the bit of two numbers is set
abbrev pub IsSet : Bits → ℕ → ℕ → Type 0
IsSet b t u = bit_at (slice_index b.words (t * b.width + u / 64)) (u % 64) ≡ 1

-- the matrix of a closed list: the bit of two types is set exactly where the first is compatible with the second
pub record IsMatrixOf (c : TypeList) (m : Matrix) : Type 0 where
  pub count : m.count ≡ length c.types
  pub exact : (t u : ℕ) → t < length c.types → u < length c.types → IsSet (bits_of m) t u ↔ IsCompatible c.decls.list (type_at c.types t) (type_at c.types u)
