-- Declarations by their depths.
use Rattle.std.specs.Prelude.{◌≡◌, ℕ, ◌+◌, ◌<◌, ◌≤◌, List, length, Option, Some, None, IfSome, IsSomeAnd, slice_index, slice_index_or}

-- the first declaration of a depth among those from a number on; none where there is none
pub record IsNextAt (depths : List ℕ) (depth from : ℕ) (answer : Option ℕ) : Type 0 where
  pub is : IfSome answer (λ n. (from ≤ n) × ((n < length depths) × (slice_index depths n ≡ depth)))
  pub least : (m : ℕ) → from ≤ m → m < length depths → slice_index depths m ≡ depth → IsSomeAnd answer (λ n. n ≤ m)

-- the first declaration of each depth, and for each declaration the next of its depth
pub record AreLayers (depths : List ℕ) (first next : List (Option ℕ)) : Type 0 where
  pub tall : (n : ℕ) → n < length depths → slice_index depths n < length first
  pub starts : (depth : ℕ) → depth < length first → IsNextAt depths depth 0 (slice_index_or first depth None)
  pub long : length next ≡ length depths
  pub follows : (n : ℕ) → n < length next → IsNextAt depths (slice_index depths n) (n + 1) (slice_index_or next n None)

-- the number; one past every number where there is none
abbrev pub or_end : Option ℕ → ℕ
or_end None = 1024
or_end (Some n) = n
