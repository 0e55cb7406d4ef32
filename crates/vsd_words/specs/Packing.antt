-- What it means that values of a type are packed into words.
use Rattle.std.specs.Prelude.{◌≡◌, ◌↔◌, ℕ, Option, Some, IsNone, IfSome}

-- the word is the packing of the value, and the value is in range
pub record IsPacking {T : Type 0} (InRange : T → Type 0) (packing : T → ℕ) (value : T) (word : ℕ) : Type 0 where
  pub in_range : InRange value
  pub packed : word ≡ packing value

-- the result is the value that packs to the word, and None exactly where no value in range does
pub record Unpacks {T : Type 0} (Packs : T → ℕ → Type 0) (word : ℕ) (result : Option T) : Type 0 where
  pub packing : IfSome result (λ value. Packs value word)
  pub back : (value : T) → Packs value word → result ≡ Some value
  pub none : IsNone result ↔ ((value : T) → ¬ Packs value word)
