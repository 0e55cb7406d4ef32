-- Elements that are like an earlier one, place by place.
use Rattle.std.proofs.Common.{◌≡◌, ℕ, ◌+◌, List, Some, ◌⊎◌, inl, inr, subst, arith}
use Rattle.std.specs.List.{slice_get}
use Rattle.std.proofs.lemmas.Bool.{cases_lt}
use Rattle.vsd_lawful.specs.Twice.{Repeats}

module _ {A : Type 0} (Alike : A → A → Type 0) (xs : List A) where
  -- nothing stands before the first place
  pub Repeats-start : (y : A) → Repeats Alike xs 0 y → ⊥
  Repeats-start y r = omega (arith, r.before)

  -- like one before the next place: like one before this place, or like the one here
  pub Repeats-next : (i : ℕ) (x y : A) → slice_get xs i ≡ Some x → Repeats Alike xs (i + 1) y → Repeats Alike xs i y ⊎ Alike x y
  Repeats-next i x y here r =
      elim (cases_lt r.earlier i) [
        | inl lt ↦ inl (record { earlier = r.earlier; before = lt; other = r.other; there = r.there; alike = r.alike })
        | inr ge ↦ inr (at_end (omega (arith, r.before)))
      ]
    where
      at_end : r.earlier ≡ i → Alike x y
      at_end e = let there = r.there in let same : r.other ≡ x = cc in subst (λ (z : A). Alike z y) same r.alike

  pub Repeats-later : (i : ℕ) (y : A) → Repeats Alike xs i y → Repeats Alike xs (i + 1) y
  Repeats-later i y r = record { earlier = r.earlier; before = omega (arith, r.before); other = r.other; there = r.there; alike = r.alike }

  pub Repeats-here : (i : ℕ) (x y : A) → slice_get xs i ≡ Some x → Alike x y → Repeats Alike xs (i + 1) y
  Repeats-here i x y here alike = record { earlier = i; before = omega arith; other = x; there = here; alike = alike }
