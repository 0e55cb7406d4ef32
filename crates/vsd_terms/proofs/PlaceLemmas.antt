-- A function of each element of a list, one place further.
use Rattle.std.proofs.Common.{◌≡◌, ℕ, ◌+◌, ◌<◌, ◌≤◌, List, [], ◌∷◌, ◌++◌, length, map, get_or, take, drop, Some, suc, max, subst, sym, ap, ◌∙◌, arith, add-one, drop-cons}
use Rattle.std.specs.List.{slice_get}
use Rattle.std.specs.Option.{option_map}
use Rattle.std.proofs.lemmas.List.{take_more, length-map}
use Rattle.std.proofs.lemmas.Option.{slice_get-map, slice_get-get_or, get_or_from_slice_get}
use Rattle.vsd_terms.specs.Size.{greatest}

module _ {A B : Type 0} (f : A → B) (xs : List A) (i : ℕ) (x : A) (within : i < length xs) (here : x ≡ get_or xs i x) where
  pub slice_get-map_at : slice_get (map f xs) i ≡ Some (f x)
  slice_get-map_at = slice_get-map f xs i ∙ ap (option_map f) (slice_get-get_or xs i x within ∙ ap Some (sym here))

  pub take_more-map : take (i + 1) (map f xs) ≡ take i (map f xs) ++ f x ∷ []
  take_more-map =
      let long : i < length (map f xs) = omega (arith, length-map xs f) in
      take_more (map f xs) i (f x) long ∙ ap (λ y. take i (map f xs) ++ y ∷ []) (get_or_from_slice_get (map f xs) i (f x) (f x) slice_get-map_at)

-- the element here and those after it have no more than n
pub greatest-drop : {A : Type 0} (f : A → ℕ) (xs : List A) (i n : ℕ) (x : A) → i < length xs → x ≡ get_or xs i x → greatest (map f (drop i xs)) ≤ n → (f x ≤ n) × (greatest (map f (drop (i + 1) xs)) ≤ n)
greatest-drop {A} f xs i n x within here most =
    let P : List A → Type 0 = λ l. greatest (map f l) ≤ n in
    let both : max (f (get_or xs i x)) (greatest (map f (drop (suc i) xs))) ≤ n = subst P (drop-cons xs i x within) most in
    let named : f x ≡ f (get_or xs i x) = ap f here in
    (omega arith, rw add-one (omega arith))
