-- Rows of marks.
use Rattle.std.proofs.Common.{◌≡◌, ℕ, zero, suc, ◌<◌, set, replicate, sym, ap, ◌∙◌, ◌↔◌, inl, inr, true, false, arith}
use Rattle.std.specs.List.{slice_get}
use Rattle.std.proofs.lemmas.Bool.{cases_order}
use Rattle.std.proofs.lemmas.List.{length-replicate}
use Rattle.vsd_ways.specs.Known.{IsMarked}
use Rattle.vsd_ways.proofs.FoundLemmas.{slice_get-set_same, slice_get-set_other}

pub unmarked : (n o : ℕ) → IsMarked (replicate n false) o → ⊥
unmarked zero o m = absurd cc
unmarked (suc n) zero m = absurd cc
unmarked (suc n) (suc o) m = unmarked n o m

pub one_marked : (n o p : ℕ) → o < n → IsMarked (set (replicate n false) o true) p ↔ (p ≡ o)
one_marked n o p within = elim (cases_order p o) [
  | inl same ↦ (λ m. same, λ e. ap (slice_get (set (replicate n false) o true)) same ∙ slice_get-set_same (replicate n false) o true (omega (arith, length-replicate n false)))
  | inr other ↦ (
      let differ : p ≡ o → ⊥ = λ e. elim other [ inl lt ↦ omega (arith, e) | inr gt ↦ omega (arith, e) ] in
      (λ m. absurd (unmarked n p (sym (slice_get-set_other (replicate n false) o p true differ) ∙ m)), λ e. absurd (differ e))
      )
]
