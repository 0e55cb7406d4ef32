-- The least number with a property, and how it is found part by part.
use Rattle.std.specs.Prelude.{◌≡◌, ℕ, ◌<◌, ◌≤◌, Bool, cond, nat_lt, List, Option, Some, None, IfSome, IsSomeAnd, slice_get}

-- the answer has the property; and where a number has it, there is an answer, which is no greater
pub record IsLeast (P : ℕ → Type 0) (answer : Option ℕ) : Type 0 where
  pub has : IfSome answer P
  pub least : (n : ℕ) → P n → IsSomeAnd answer (λ found. found ≤ n)

-- the lesser of two that may be missing
abbrev pub earlier_of : Option ℕ → Option ℕ → Option ℕ
earlier_of None b = b
earlier_of (Some x) None = Some x
earlier_of (Some x) (Some y) = cond (nat_lt y x) (Some y) (Some x)

-- the line where the test is true
abbrev pub line_if : Bool → ℕ → Option ℕ
line_if test line = cond test (Some line) None

-- the property holds of this number at some element of the list: Q takes the element's place, the element and the number
pub record AtSome {A : Type 0} (xs : List A) (Q : ℕ → A → ℕ → Type 0) (n : ℕ) : Type 0 where
  pub place : ℕ
  pub element : A
  pub there : slice_get xs place ≡ Some element
  pub shows : Q place element n

-- the same of the elements before place i alone
abbrev pub Until : {A : Type 0} → ℕ → (ℕ → A → ℕ → Type 0) → ℕ → A → ℕ → Type 0
Until i Q place element n = (place < i) × Q place element n
