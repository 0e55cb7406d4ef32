-- What a root is, in other words: a method has one root; two methods have the same one exactly where overrides lead both
-- to one method.
use Rattle.std.proofs.Common.{◌≡◌, ℕ, zero, suc, ◌↔◌, List, refl, sym, ap, ◌∙◌, subst, inl, inr, arith}
use Rattle.std.specs.List.{slice_get}
use Rattle.std.proofs.lemmas.Bool.{false≢true}
use Rattle.vsd_ast.specs.declared.declarations.Decl.{Decl}
use Rattle.vsd_ast.specs.declared.declarations.Method.{Method}
use Rattle.vsd_lift.proofs.ChainLemmas.{chain-unique}
use Rattle.vsd_roots.specs.Slots.{Climbs, HasMatch, IsNearest, IsRoot, Overrides, Reaches, StartsSlot}
use Rattle.vsd_roots.specs.declared.place.Place.{Place}
use Rattle.vsd_roots.proofs.MatchLemmas.{same_place}
use Rattle.vsd_roots.proofs.TableLemmas.{same_method}

module _ (ds : List Decl) where
  nearest_only : (chain : List ℕ) (m : Method) (q r : Place) → IsNearest ds chain m q → IsNearest ds chain m r → q ≡ r
  nearest_only chain m q r a b =
      elim (a.nearest b.level r b.matches) [
        | inl lower ↦ (
            elim (b.nearest a.level q a.matches) [
              | inl higher ↦ absurd (omega arith)
              | inr same ↦ absurd (omega (arith, same.0))
            ]
            )
        | inr one ↦ (
            elim (b.nearest a.level q a.matches) [
              | inl higher ↦ absurd (omega (arith, one.0))
              | inr other ↦ (
                  let decls : q.decl ≡ r.decl = let both = sym a.matches.stands ∙ ap (slice_get chain) one.0 ∙ b.matches.stands in cc in
                  same_place q r decls (omega (arith, one.1, other.1))
                  )
            ]
            )
      ]

  -- a method overrides one method
  pub overrides_only : (p q r : Place) → Overrides ds p q → Overrides ds p r → q ≡ r
  overrides_only p q r a b =
      let methods = same_method ds p p a.method b.method refl refl a.is_method b.is_method in
      let chains = chain-unique ds p.decl a.chain b.chain a.upward b.upward in
      let P : List ℕ → Method → Type 0 = λ chain m. IsNearest ds chain m q in
      nearest_only b.chain b.method q r (subst (λ (m : Method). P b.chain m) methods (subst (λ (l : List ℕ). P l a.method) chains a.nearest)) b.nearest

  -- a method that overrides another starts no slot
  pub overrides_or_starts : (p q : Place) → Overrides ds p q → StartsSlot ds p → ⊥
  overrides_or_starts p q over starts =
      let methods = same_method ds p p over.method starts.method refl refl over.is_method starts.is_method in
      let chains = chain-unique ds p.decl over.chain starts.chain over.upward starts.upward in
      elim starts.new [
        | inl new ↦ false≢true (sym over.old ∙ ap (λ (m : Method). m.newslot) methods ∙ new)
        | inr none ↦ (
            let P : List ℕ → Method → Type 0 = λ chain m. HasMatch ds chain m in
            none (subst (λ (m : Method). P starts.chain m) methods (subst (λ (l : List ℕ). P l over.method) chains (over.nearest.level, (q, over.nearest.matches))))
            )
      ]

  -- behind the first override the way to the root goes on
  behind_first : (p q root : Place) (n : ℕ) → Overrides ds p q → StartsSlot ds root → Climbs ds n p root → Reaches ds q root
  behind_first p q root zero over starts same = absurd (overrides_or_starts root q (subst (λ (r : Place). Overrides ds r q) same over) starts)
  behind_first p q root (suc n) over starts climbs =
      let one = overrides_only p climbs.0 q climbs.1.0 over in
      (n, subst (λ (r : Place). Climbs ds n r root) one climbs.1.1)

  -- what is reached on the way has the root of the method below
  pub root_of_reached : (n : ℕ) (p q root : Place) → Climbs ds n p q → IsRoot ds p root → IsRoot ds q root
  root_of_reached zero p q root same is = subst (λ (r : Place). IsRoot ds r root) same is
  root_of_reached (suc n) p q root climbs is =
      let rest = behind_first p climbs.0 root is.steps climbs.1.0 is.starts is.climbs in
      root_of_reached n climbs.0 q root climbs.1.1 (record { steps = rest.0; climbs = rest.1; starts = is.starts })

  stays : (p q : Place) (n : ℕ) → StartsSlot ds p → Climbs ds n p q → p ≡ q
  stays p q zero starts same = same
  stays p q (suc n) starts climbs = absurd (overrides_or_starts p climbs.0 climbs.1.0 starts)

  -- a method has one root
  pub root_only : (p r s : Place) → IsRoot ds p r → IsRoot ds p s → r ≡ s
  root_only p r s a b =
      let other = root_of_reached a.steps p r s a.climbs b in
      stays r s other.steps a.starts other.climbs

  -- two methods have one root exactly where overrides lead both to one method
  pub one_root : (p q r s : Place) → IsRoot ds p r → IsRoot ds q s → (r ≡ s) ↔ ((c : Place) × (Reaches ds p c × Reaches ds q c))
  one_root p q r s a b = (
    λ same. (r, ((a.steps, a.climbs), (b.steps, subst (λ (t : Place). Climbs ds b.steps q t) (sym same) b.climbs))),
    λ meet. root_only meet.0 r s (root_of_reached meet.1.0.0 p meet.0 r meet.1.0.1 a) (root_of_reached meet.1.1.0 q meet.0 s meet.1.1.1 b),
  )
