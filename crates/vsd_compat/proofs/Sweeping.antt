-- Rows taken in turn.
use Rattle.std.proofs.Common.{◌≡◌, ℕ, ◌+◌, ◌*◌, ◌^◌, ◌<◌, ◌≤◌, Bool, true, false, List, [], ◌∷◌, length, get_or, sum, Contains, IfSome, IsSome, Option, Some, None, refl, subst, ap, ◌∙◌, suc, arith}
use Rattle.std.specs.List.{slice_get}
use Rattle.std.proofs.lemmas.Option.{slice_get-get_or}
use Rattle.std.proofs.lemmas.List.Sums.{sum_by_from}
use Rattle.vsd_types.specs.Numbers.{IsDistinct}
use Rattle.vsd_types.specs.TypeList.{TypeList}
use Rattle.vsd_types.specs.Types.{object, type_at}
use Rattle.vsd_compat.specs.Matrices.{Bits, IsSet}
use Rattle.vsd_compat.specs.Settling.{turned}

-- a turn twice is none
pub turned-twice : (n : ℕ) (forward : Bool) (t : ℕ) → t < n → (turned n forward t < n) × (turned n forward (turned n forward t) ≡ t)
turned-twice n true t within = (within, refl)
turned-twice n false t within = (omega arith, omega arith)

pub if_some_weaker : (o : Option ℕ) (P Q : ℕ → Type 0) → ((x : ℕ) → P x → Q x) → IfSome o P → IfSome o Q
if_some_weaker None P Q weaker h = h
if_some_weaker (Some x) P Q weaker h = weaker x h

-- a row with the bit of the number of `object` has that of each number whose type is `object`
pub object_bit : (c : TypeList) (b : Bits) (r : Option ℕ) (t : ℕ) → IsDistinct c.types → IfSome r (λ o. slice_get c.types o ≡ Some object) → (Contains c.types object → IsSome r) → IfSome r (λ o. IsSet b t o) → (u : ℕ) → u < length c.types → type_at c.types u ≡ object → IsSet b t u
object_bit c b None t distinct found present set u within is =
    let has : Contains c.types object = (u, within, is) in
    absurd (none (present has))
  where
    none : IsSome {T = ℕ} None → ⊥
    none h = absurd cc
object_bit c b (Some o) t distinct found present set u within is =
    let here : slice_get c.types u ≡ Some object = slice_get-get_or c.types u object within ∙ ap Some is in
    subst (IsSet b t) (distinct o u object found here) set

-- words below 2 ^ 64 add up to no more than so many times that
pub words_bounded : (ws : List ℕ) → ((i : ℕ) → get_or ws i 0 < 2 ^ 64) → sum ws ≤ length ws * 2 ^ 64
words_bounded [] fit = omega arith
words_bounded (w ∷ ws) fit =
    let first : w < 2 ^ 64 = fit 0 in
    let rest = words_bounded ws (λ i. fit (suc i)) in
    omega (arith, first, rest, sum_by_from (λ x. x) (0 + w) ws)
