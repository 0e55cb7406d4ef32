-- The order by depth, made depth by depth.
use Rattle.std.proofs.Common.{◌≡◌, ℕ, ◌+◌, ◌<◌, ◌≤◌, List, [], ◌∷◌, ◌++◌, length, get_or, refl, sym, ap, ◌∙◌, subst, Option, Some, ◌⊎◌, inl, inr, arith}
use Rattle.std.specs.List.{slice_get}
use Rattle.std.proofs.lemmas.Bool.{cases_lt}
use Rattle.std.proofs.lemmas.List.{length_push}
use Rattle.std.proofs.lemmas.Option.{slice_get_within}
use Rattle.vsd_layers.specs.Layers.{IsNextAt, or_end}
use Rattle.vsd_layers.proofs.LayerLemmas.{none_between}
use Rattle.vsd_lift.proofs.ChainLemmas.{slice_get-left, slice_get-seam}
use Rattle.vsd_ways.specs.Order.{IsOrder, IsOrderTo}

module _ (count : ℕ) (depths : List ℕ) where
  pub order_start : (order : List ℕ) → order ≡ [] → IsOrderTo count depths 0 0 order
  order_start order none = subst (IsOrderTo count depths 0 0) (sym none) (record {
    within = λ i n at. absurd cc;
    whole = λ n inside e. elim e [ inl lt ↦ absurd (omega arith) | inr both ↦ absurd (omega (arith, both.1)) ];
    upward = λ i n m at inside lower. absurd cc;
  })

  -- as far as the next declaration of the depth
  pub order_skip : (depth from : ℕ) (next : Option ℕ) (order : List ℕ) → count ≡ length depths → IsNextAt depths depth from next → IsOrderTo count depths depth from order → IsOrderTo count depths depth (or_end next) order
  order_skip depth from next order all are o = record {
    within = o.within;
    whole = λ n inside e. elim e [
      | inl lt ↦ o.whole n inside (inl lt)
      | inr both ↦ o.whole n inside (inr (both.0, none_between depths depth from next are n (omega (arith, all)) both.0 both.1))
    ];
    upward = o.upward;
  }

  pub order_push : (depth at : ℕ) (order more : List ℕ) → more ≡ order ++ at ∷ [] → get_or depths at 0 ≡ depth → at < count → IsOrderTo count depths depth at order → IsOrderTo count depths depth (at + 1) more
  order_push depth at order more is here inside o =
      subst (IsOrderTo count depths depth (at + 1)) (sym is) (record {
        within = λ i n there. elim (place i n there) [ inl old ↦ o.within i n old.1 | inr new ↦ omega (arith, new.1) ];
        whole = λ n n_in e. elim e [
          | inl lt ↦ (let w = o.whole n n_in (inl lt) in (w.0, left w.0 n w.1))
          | inr both ↦ (
              elim (cases_lt n at) [
                | inl lt ↦ (let w = o.whole n n_in (inr (both.0, lt)) in (w.0, left w.0 n w.1))
                | inr ge ↦ (let last : at ≡ n = omega (arith, both.1) in (length order, slice_get-seam order at (length order) refl ∙ ap Some last))
              ]
              )
        ];
        upward = λ i n m there m_in lower. elim (place i n there) [
          | inl old ↦ (let s = o.upward i n m old.1 m_in lower in record { place = s.place; before = s.before; there = left s.place m s.there })
          | inr new ↦ (
              let w = o.whole m m_in (inl (omega (arith, lower, ap (λ (k : ℕ). get_or depths k 0) new.1, here))) in
              record { place = w.0; before = omega (arith, slice_get_within order w.0 m w.1, new.0); there = left w.0 m w.1 }
              )
        ];
      })
    where
      left : (i n : ℕ) → slice_get order i ≡ Some n → slice_get (order ++ at ∷ []) i ≡ Some n
      left i n there = slice_get-left order (at ∷ []) i (slice_get_within order i n there) ∙ there

      place : (i n : ℕ) → slice_get (order ++ at ∷ []) i ≡ Some n → ((i < length order) × (slice_get order i ≡ Some n)) ⊎ ((i ≡ length order) × (n ≡ at))
      place i n there =
          elim (cases_lt i (length order)) [
            | inl lt ↦ inl (lt, sym (slice_get-left order (at ∷ []) i lt) ∙ there)
            | inr ge ↦ (
                let end : i ≡ length order = omega (arith, slice_get_within (order ++ at ∷ []) i n there, length_push order at) in
                inr (end, let both = sym there ∙ slice_get-seam order at i end in cc)
                )
          ]

  pub order_next : (depth at : ℕ) (order : List ℕ) → count ≤ at → IsOrderTo count depths depth at order → IsOrderTo count depths (depth + 1) 0 order
  order_next depth at order past o = record {
    within = o.within;
    whole = λ n inside e. elim e [
      | inl lt ↦ (
          elim (cases_lt (get_or depths n 0) depth) [
            | inl less ↦ o.whole n inside (inl less)
            | inr ge ↦ o.whole n inside (inr (omega arith, omega arith))
          ]
          )
      | inr both ↦ absurd (omega (arith, both.1))
    ];
    upward = o.upward;
  }

  pub order_end : (depth tall : ℕ) (order : List ℕ) → ((n : ℕ) → n < count → get_or depths n 0 < tall) → tall ≤ depth → IsOrderTo count depths depth 0 order → IsOrder count depths order
  order_end depth tall order all past o = record {
    within = o.within;
    whole = λ n inside. o.whole n inside (inl (omega (arith, all n inside)));
    upward = o.upward;
  }
