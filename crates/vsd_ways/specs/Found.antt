-- That an element of a list has a property.
use Rattle.std.specs.Prelude.{◌≡◌, ℕ, ◌<◌, List, Some, slice_get}

pub record SomeOf {A : Type 0} (P : A → Type 0) (xs : List A) : Type 0 where
  pub place : ℕ
  pub element : A
  pub there : slice_get xs place ≡ Some element
  pub has : P element

-- the same of the elements before place n alone
pub record SomeBefore {A : Type 0} (P : A → Type 0) (n : ℕ) (xs : List A) : Type 0 where
  pub place : ℕ
  pub before : place < n
  pub element : A
  pub there : slice_get xs place ≡ Some element
  pub has : P element
