-- Places of numbers: what they tell of a number, and what stays true of them.
use Rattle.std.proofs.Common.{◌≡◌, ℕ, zero, suc, ◌+◌, ◌<◌, ◌≤◌, false, List, [], ◌∷◌, ◌++◌, length, nat_eq, get_or, take, if◌then◌else◌, refl, sym, ap, ◌∙◌, arith}
use Rattle.std.specs.List.{list_any}
use Rattle.std.proofs.lemmas.Bool.{ne_eqb}
use Rattle.std.proofs.lemmas.List.{get_or-take, take_all, take_more}
use Rattle.std.proofs.lemmas.List.Folds.{list_any_none}
use Rattle.std.proofs.lemmas.List.Sums.{fold_more}
use Rattle.std.proofs.lemmas.Grind.{common_steps}
use Rattle.indexmap.specs.IndexSet.{insert_all, insert_key}
use Rattle.vsd_interfaces.specs.Places.{ArePlaces}
use Rattle.vsd_interfaces.proofs.ReadLaws.{read_any}

-- a number that stands nowhere in a list isn't there
none-at : (ns : List ℕ) (n : ℕ) → ((k : ℕ) → k < length ns → get_or ns k 0 ≡ n → ⊥) → list_any (nat_eq n) ns ≡ false
none-at ns n none =
    list_any_none (nat_eq n) ns (λ k d within.
    ne_eqb n (get_or ns k d) (λ same. none k within (read_any ns k 0 d within ∙ sym same)))

module _ (ns ps : List ℕ) (are : ArePlaces ns ps) where
  -- only at its place can a number stand
  pub absent : (n : ℕ) → (n < length ps → get_or ps n 0 < length ns → get_or ns (get_or ps n 0) 0 ≡ n → ⊥)
      → list_any (nat_eq n) ns ≡ false
  absent n other =
      none-at ns n (λ k within is.
      let low = are.within k within in
      let at : get_or ps n 0 ≡ k = ap (λ m. get_or ps m 0) (sym is) ∙ are.there k within in
      other (omega (arith, low, is)) (omega (arith, at, within)) (ap (λ j. get_or ns j 0) at ∙ is))

  -- a number isn't among those before it
  new-at : (k : ℕ) → k < length ns → list_any (nat_eq (get_or ns k 0)) (take k ns) ≡ false
  new-at k within =
      none-at (take k ns) (get_or ns k 0) (λ j inside is.
      let low : j < k = grind (arith, common_steps) in
      let before : j < length ns = omega (arith, low, within) in
      let same = sym (get_or-take k ns j 0 low) ∙ is in
      let e : j ≡ k = sym (are.there j before) ∙ ap (λ m. get_or ps m 0) same ∙ are.there k within in
      omega (arith, e, low))

  -- so adding all anew gives the same list
  first-ones : (k : ℕ) → k ≤ length ns → insert_all nat_eq [] (take k ns) ≡ take k ns
  first-ones zero le = refl
  first-ones (suc k) le =
      let within : k < length ns = omega (arith, le) in
      let n = get_or ns k 0 in
      let next : suc k ≡ k + 1 = omega arith in
      ap (λ m. insert_all nat_eq [] (take m ns)) next
      ∙ fold_more (insert_key nat_eq) [] ns k 0 within
      ∙ ap (λ l. insert_key nat_eq l n) (first-ones k (omega (arith, within)))
      ∙ ap (λ b. if b then take k ns else take k ns ++ n ∷ []) (new-at k within)
      ∙ sym (take_more ns k 0 within)
      ∙ ap (λ m. take m ns) (sym next)

  pub once : insert_all nat_eq [] ns ≡ ns
  once =
      let whole = take_all (length ns) ns (omega arith) in
      ap (insert_all nat_eq []) (sym whole) ∙ first-ones (length ns) (omega arith) ∙ whole
