-- No declaration is deeper than there are declarations: there are some of each lower depth too.
use Rattle.std.proofs.Common.{◌≡◌, ℕ, zero, suc, ◌<◌, ◌≤◌, true, List, [], ◌∷◌, length, map, nat_eq, get_or, refl, sym, subst, inl, inr, arith}
use Rattle.std.specs.List.{list_any}
use Rattle.std.proofs.lemmas.Bool.{cases_lt, eq-eqb}
use Rattle.std.proofs.lemmas.List.{get_or_past}
use Rattle.std.proofs.lemmas.List.Folds.{list_any_at}
use Rattle.std.proofs.lemmas.Map.Steps.{le-length_from_below}
use Rattle.std.proofs.lemmas.Option.{slice_get_cases}
use Rattle.vsd_terms.specs.Size.{greatest}
use Rattle.vsd_terms.specs.declared.term.Term.{Term}
use Rattle.vsd_ast.specs.declared.declarations.Decl.{Decl}
use Rattle.vsd_ast.specs.Hierarchy.{AreDepths, above, number_for}
use Rattle.vsd_ast.specs.Lookup.{Head, named, parameter, built_in, head_of, place_of}

-- where the greatest of some numbers isn't 0, it is one of them
attained : (f : Term → ℕ) (ts : List Term) (n : ℕ) → greatest (map f ts) ≡ suc n → (t : Term) × (f t ≡ suc n)
attained f [] n is = absurd (omega (arith, is))
attained f (t ∷ ts) n is =
    elim (cases_lt (f t) (greatest (map f ts))) [
      | inl low ↦ attained f ts n (omega (arith, is, low))
      | inr high ↦ (t, omega (arith, is, high))
    ]

module _ (ds : List Decl) (depths : List ℕ) (are : AreDepths ds depths) where
  abbrev HasDepth : ℕ → Type 0
  HasDepth n = (i : ℕ) × (i < length depths) × (get_or depths i 0 ≡ n)

  read_depth : (i n : ℕ) → get_or depths i 0 ≡ suc n → HasDepth (suc n)
  read_depth i n is =
      elim (cases_lt i (length depths)) [
        | inl inside ↦ (i, inside, is)
        | inr past ↦ absurd (omega (arith, is, get_or_past depths i 0 past))
      ]

  head_depth : (g : Head) (n : ℕ) → number_for ds depths g ≡ suc n → HasDepth (suc n)
  head_depth (named name) n is = read_depth (place_of ds name) n is
  head_depth (parameter place) n is = absurd (omega (arith, is))
  head_depth (built_in b) n is = absurd (omega (arith, is))

  -- below a depth there is the next lower one, down to 1
  one_lower : (n : ℕ) → HasDepth (suc (suc n)) → HasDepth (suc n)
  one_lower n has =
      elim (slice_get_cases ds has.0).1 [
        | inl there ↦ (
            let deep = are.each has.0 there.0 there.2 in
            let top = attained (λ t. number_for ds depths (head_of t)) (above there.0) n (omega (arith, deep, has.2)) in
            head_depth (head_of top.0) n top.1
            )
        | inr past ↦ absurd (omega (arith, past.0, has.1, are.count))
      ]

  all_lower : (n : ℕ) → HasDepth (suc n) → (q : ℕ) → q ≤ n → HasDepth (suc q)
  all_lower zero has q low = let same : suc zero ≡ suc q = omega (arith, low) in subst HasDepth same has
  all_lower (suc n) has q low =
      elim (cases_lt n q) [
        | inl top ↦ (let same : suc (suc n) ≡ suc q = omega (arith, low, top) in subst HasDepth same has)
        | inr lower ↦ all_lower n (one_lower n has) q lower
      ]

  listed : (q : ℕ) → HasDepth q → list_any (nat_eq q) (0 ∷ depths) ≡ true
  listed q has = list_any_at (nat_eq q) (0 ∷ depths) (suc has.0) 0 (omega (arith, has.1)) (eq-eqb q (get_or depths has.0 0) (sym has.2))

  depth_by : (i n : ℕ) → get_or depths i 0 ≡ n → n ≤ length depths
  depth_by i zero is = omega arith
  depth_by i (suc n) is =
      let all = all_lower n (read_depth i n is) in
      let each : (q : ℕ) → q < suc (suc n) → list_any (nat_eq q) (0 ∷ depths) ≡ true = from all in
      omega (arith, le-length_from_below (0 ∷ depths) (suc (suc n)) each)
    where
      from : ((q : ℕ) → q ≤ n → HasDepth (suc q)) → (q : ℕ) → q < suc (suc n) → list_any (nat_eq q) (0 ∷ depths) ≡ true
      from all zero low = refl
      from all (suc q) low = listed (suc q) (all q (omega (arith, low)))

  pub depth_most : (i : ℕ) → get_or depths i 0 ≤ length ds
  depth_most i = omega (arith, depth_by i (get_or depths i 0) refl, are.count)
