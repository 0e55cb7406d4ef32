-- Numbers of declarations in an order in which each stands after those that are less deep.
use Rattle.std.specs.Prelude.{◌≡◌, ℕ, ◌<◌, ◌⊎◌, List, Some, slice_get, slice_index}

-- the number stands before place i
pub record StandsBefore (order : List ℕ) (i n : ℕ) : Type 0 where
  pub place : ℕ
  pub before : place < i
  pub there : slice_get order place ≡ Some n

pub record IsOrder (count : ℕ) (depths order : List ℕ) : Type 0 where
  pub within : (i n : ℕ) → slice_get order i ≡ Some n → n < count
  pub whole : (n : ℕ) → n < count → (i : ℕ) × (slice_get order i ≡ Some n)
  pub upward : (i n m : ℕ) → slice_get order i ≡ Some n → m < count → slice_index depths m < slice_index depths n → StandsBefore order i m

-- the order of those that are less deep than this, and of those of this depth before a number
pub record IsOrderTo (count : ℕ) (depths : List ℕ) (depth at : ℕ) (order : List ℕ) : Type 0 where
  pub within : (i n : ℕ) → slice_get order i ≡ Some n → n < count
  pub whole : (n : ℕ) → n < count → (slice_index depths n < depth) ⊎ ((slice_index depths n ≡ depth) × (n < at)) → (i : ℕ) × (slice_get order i ≡ Some n)
  pub upward : (i n m : ℕ) → slice_get order i ≡ Some n → m < count → slice_index depths m < slice_index depths n → StandsBefore order i m
