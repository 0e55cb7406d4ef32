-- An element with a property, looked for from the first place on.
use Rattle.std.proofs.Common.{◌≡◌, ℕ, zero, suc, ◌+◌, ◌<◌, ◌≤◌, List, [], ◌∷◌, ◌++◌, length, set, refl, sym, ap, ◌∙◌, subst, Some, ◌⊎◌, inl, inr, ◌↔◌, arith}
use Rattle.std.specs.List.{slice_get}
use Rattle.std.proofs.lemmas.Bool.{cases_lt}
use Rattle.std.proofs.lemmas.List.{length_push}
use Rattle.std.proofs.lemmas.Option.{slice_get_within}
use Rattle.vsd_lift.proofs.ChainLemmas.{slice_get-left, slice_get-seam}
use Rattle.vsd_ways.specs.Found.{SomeOf, SomeBefore}

module _ {A : Type 0} (P : A → Type 0) (xs : List A) where
  pub before-none : SomeBefore P 0 xs → ⊥
  before-none w = omega (arith, w.before)

  pub before-more : (n : ℕ) → SomeBefore P n xs → SomeBefore P (n + 1) xs
  before-more n w = record { place = w.place; before = omega (arith, w.before); element = w.element; there = w.there; has = w.has }

  pub before-here : (n : ℕ) (x : A) → slice_get xs n ≡ Some x → P x → SomeBefore P (n + 1) xs
  before-here n x here has = record { place = n; before = omega arith; element = x; there = here; has = has }

  pub before-split : (n : ℕ) (x : A) → slice_get xs n ≡ Some x → SomeBefore P (n + 1) xs → SomeBefore P n xs ⊎ P x
  before-split n x here w =
      elim (cases_lt w.place n) [
        | inl lt ↦ inl (record { place = w.place; before = lt; element = w.element; there = w.there; has = w.has })
        | inr ge ↦ (
            let last : w.place ≡ n = omega (arith, w.before) in
            let same : w.element ≡ x = let both = sym w.there ∙ ap (slice_get xs) last ∙ here in cc in
            inr (subst P same w.has)
            )
      ]

  pub some-before : (n : ℕ) → SomeBefore P n xs → SomeOf P xs
  some-before n w = record { place = w.place; element = w.element; there = w.there; has = w.has }

  pub before-all : (n : ℕ) → length xs ≤ n → SomeOf P xs → SomeBefore P n xs
  before-all n past w = record { place = w.place; before = omega (arith, slice_get_within xs w.place w.element w.there); element = w.element; there = w.there; has = w.has }

  -- one more element without the property
  pub none-more : (n : ℕ) (x : A) → slice_get xs n ≡ Some x → (SomeBefore P n xs → ⊥) → (P x → ⊥) → SomeBefore P (n + 1) xs → ⊥
  none-more n x here none other w = elim (before-split n x here w) [ inl b ↦ none b | inr p ↦ other p ]

pub SomeOf-map : {A : Type 0} (P Q : A → Type 0) (xs : List A) → ((x : A) → P x → Q x) → SomeOf P xs → SomeOf Q xs
SomeOf-map P Q xs to w = record { place = w.place; element = w.element; there = w.there; has = to w.element w.has }

-- ---- the first element of a list, and those behind it

pub some_first : {A : Type 0} (P : A → Type 0) (x : A) (xs : List A) → SomeOf P (x ∷ xs) ↔ (P x ⊎ SomeOf P xs)
some_first P x xs = (
  λ w. by w.place w.element w.there w.has,
  λ e. elim e [
    | inl p ↦ record { place = 0; element = x; there = refl; has = p }
    | inr w ↦ record { place = suc w.place; element = w.element; there = w.there; has = w.has }
  ],
)
  where
    by : (place : ℕ) (y : _) → slice_get (x ∷ xs) place ≡ Some y → P y → P x ⊎ SomeOf P xs
    by zero y there has = let same : y ≡ x = cc in inl (subst P same has)
    by (suc n) y there has = inr (record { place = n; element = y; there = there; has = has })

-- ---- an element that is put in its place

pub slice_get-set_same : {A : Type 0} (xs : List A) (i : ℕ) (y : A) → i < length xs → slice_get (set xs i y) i ≡ Some y
slice_get-set_same [] i y within = absurd (omega arith)
slice_get-set_same (x ∷ xs) zero y within = refl
slice_get-set_same (x ∷ xs) (suc i) y within = slice_get-set_same xs i y (omega arith)

pub slice_get-set_other : {A : Type 0} (xs : List A) (p i : ℕ) (y : A) → (i ≡ p → ⊥) → slice_get (set xs p y) i ≡ slice_get xs i
slice_get-set_other [] p i y other = refl
slice_get-set_other (x ∷ xs) zero zero y other = absurd (other refl)
slice_get-set_other (x ∷ xs) zero (suc i) y other = refl
slice_get-set_other (x ∷ xs) (suc p) zero y other = refl
slice_get-set_other (x ∷ xs) (suc p) (suc i) y other = slice_get-set_other xs p i y (λ e. other (ap suc e))

-- ---- an element that is added at the end

pub some_push : {A : Type 0} (P : A → Type 0) (xs : List A) (x : A) → SomeOf P (xs ++ x ∷ []) ↔ (SomeOf P xs ⊎ P x)
some_push P xs x = (
  λ w. elim (cases_lt w.place (length xs)) [
    | inl lt ↦ inl (record { place = w.place; element = w.element; there = sym (slice_get-left xs (x ∷ []) w.place lt) ∙ w.there; has = w.has })
    | inr ge ↦ (
        let end : w.place ≡ length xs = omega (arith, slice_get_within (xs ++ x ∷ []) w.place w.element w.there, length_push xs x) in
        let same : w.element ≡ x = let both = sym w.there ∙ slice_get-seam xs x w.place end in cc in
        inr (subst P same w.has)
        )
  ],
  λ e. elim e [
    | inl w ↦ record { place = w.place; element = w.element; there = slice_get-left xs (x ∷ []) w.place (slice_get_within xs w.place w.element w.there) ∙ w.there; has = w.has }
    | inr p ↦ record { place = length xs; element = x; there = slice_get-seam xs x (length xs) refl; has = p }
  ],
)
