-- From the place of a match to the match.
use Rattle.std.proofs.Common.{◌≡◌, ℕ, ◌<◌, ◌≤◌, inl, inr, All, Contains, List, length, get_or, map, Option, Some, None, refl, sym, ap, ◌∙◌, subst, arith}
use Rattle.std.specs.List.{slice_get}
use Rattle.std.specs.Option.{option_map}
use Rattle.std.proofs.lemmas.Bool.{cases_lt}
use Rattle.std.proofs.lemmas.List.{length-map}
use Rattle.std.proofs.lemmas.Option.{slice_get-get_or, slice_get-map, slice_get_within}
use Rattle.vsd_terms.specs.declared.term.Term.{Term}
use Rattle.vsd_ast.specs.declared.declarations.Decl.{Decl}
use Rattle.vsd_types.specs.Numbers.{IsDistinct}
use Rattle.vsd_types.specs.TypeList.{TypeList}
use Rattle.vsd_types.specs.Types.{object, type_at}
use Rattle.vsd_interfaces.specs.Tables.{types_of}
use Rattle.vsd_interfaces.proofs.NumberLaws.{same_number}
use Rattle.vsd_itable.specs.Matching.{IsMatchAmong, Suits}
use Rattle.vsd_itable.specs.Places.{IsFirstPlace, IsMatchPlace, IsPlaceOf, SuitsAt}

same_some : {A : Type 0} {x y : A} → Some x ≡ Some y → x ≡ y
same_some e = cc

module _ (c : TypeList) (distinct : IsDistinct c.types) (ns : List ℕ) (j : ℕ) (within : All (λ i. i < length c.types) ns) (j_in : j < length c.types) where
  abbrev Ds : List Decl
  Ds = c.decls.list

  abbrev Wanted : Term
  Wanted = type_at c.types j

  abbrev here : ℕ → Term
  here p = type_at c.types (get_or ns p 0)

  stands : (p : ℕ) → p < length ns → slice_get (types_of c.types ns) p ≡ Some (here p)
  stands p less = slice_get-map (type_at c.types) ns p ∙ ap (option_map (type_at c.types)) (slice_get-get_or ns p 0 less)

  stands-back : (p : ℕ) (u : Term) → slice_get (types_of c.types ns) p ≡ Some u → (p < length ns) × (here p ≡ u)
  stands-back p u is =
      let less : p < length ns = omega (arith, slice_get_within (types_of c.types ns) p u is, length-map ns (type_at c.types)) in
      (less, same_some (sym (stands p less) ∙ is))

  contained : (u : Term) → Contains (types_of c.types ns) u → (p : ℕ) × (p < length ns) × (here p ≡ u)
  contained u has =
      let at = stands-back has.0 u (slice_get-get_or (types_of c.types ns) has.0 u has.1 ∙ ap Some has.2) in
      (has.0, at.0, at.1)

  contains : (p : ℕ) → p < length ns → Contains (types_of c.types ns) (here p)
  contains p less =
      let long : p < length (types_of c.types ns) = omega (arith, less, length-map ns (type_at c.types)) in
      let at = slice_get-get_or (types_of c.types ns) p (here p) long in
      (p, long, same_some (sym at ∙ stands p less))

  absent : IsPlaceOf ns j None → Contains (types_of c.types ns) Wanted → ⊥
  absent none has =
      let at = contained Wanted has in
      none at.0 at.1 (same_number c.types distinct (get_or ns at.0 0) j (within at.0 0 at.1) j_in at.2)

  first-place : (p : ℕ) → IsFirstPlace c ns j (Some p) → (q : ℕ) (u : Term) → slice_get (types_of c.types ns) q ≡ Some u → Suits Ds Wanted u → p ≤ q
  first-place p first q u is suits =
      let at = stands-back q u is in
      elim (cases_lt q p) [
        | inl low ↦ absurd (first.2 q low (subst (Suits Ds Wanted) (sym at.1) suits))
        | inr high ↦ high
      ]

  pub matched : (found : Option ℕ) → IsMatchPlace c ns j found → IsMatchAmong Ds Wanted (types_of c.types ns) (option_map here found)
  matched None is =
      elim is [
        | inl some ↦ absurd (some.0 refl)
        | inr none ↦ (absent none.0, λ i has suits. let at = contained i has in none.1 at.0 at.1 (subst (Suits Ds Wanted) (sym at.2) suits))
      ]
  matched (Some p) is =
      elim is [
        | inl exact ↦ (
            let same : here p ≡ Wanted = ap (type_at c.types) exact.1.1 in
            inl (subst (Contains (types_of c.types ns)) same (contains p exact.1.0), same)
            )
        | inr variant ↦ inr (
          absent variant.0,
          record {
            place = p;
            stands = stands p variant.1.0;
            suits = variant.1.1;
            first = first-place p variant.1;
          },
        )
      ]
