use Rattle.std.proofs.Common.{◌≡◌, ◌<◌, ℕ, List, inl, inr, length, get_or, Some, refl, subst, sym, ap, ◌∙◌, arith}
use Rattle.std.specs.List.{slice_get}
use Rattle.std.proofs.lemmas.Bool.{cases_order, false≢true}
use Rattle.std.proofs.lemmas.Option.{get_or_from_slice_get, slice_get-get_or, slice_get_within}
use Rattle.vsd_ast.specs.declared.declarations.Sign.{Sign}
use Rattle.vsd_ast.specs.declared.declarations.Sign.TheVariants.{Plus}
use Rattle.vsd_terms.specs.declared.term.Term.{Term}
use Rattle.vsd_types.specs.Numbers.{AreNumbers}
use Rattle.vsd_types.specs.Types.{object, type_at}
use Rattle.vsd_types.proofs.NumberLemmas.{numbers-at, numbers-length}
use Rattle.vsd_compat.specs.Matrices.{bits_of}
use Rattle.vsd_compat.specs.Settling.{VariesIn}
use Rattle.vsd_compat.proofs.Rules.{number_at}
use Rattle.vsd_compat.proofs.relation.are_variant.Goals as goal

-- the argument at a place is the type of the number there
argument : (types : List Term) (ns : List ℕ) (ts : List Term) → AreNumbers types ns ts → (k : ℕ) → k < length ns → slice_get ts k ≡ Some (type_at types (get_or ns k 0))
argument types ns ts are k within =
    let at = numbers-at types ns ts are k 0 object within in
    let same : type_at types (get_or ns k 0) ≡ get_or ts k object = get_or_from_slice_get types (get_or ns k 0) (get_or ts k object) object at in
    let long : k < length ts = omega (arith, within, numbers-length types ns ts are) in
    slice_get-get_or ts k object long ∙ ap Some (sym same)

pub returns-then-not-varies : goal.returns-then-not-varies
returns-then-not-varies c =
    let s = c.args.closed.now in
    let k = c.loop-k.k in
    let signs = c.signs-signs.result.now in
    let xs = c.args-xs.result.now in
    let ys = c.args-ys.result.now in
    let sign_in : k < length signs = omega (arith, c.min.ensures, c.min-k-end.ensures, c.loop-k-test.true) in
    let x_in : k < length xs = omega (arith, c.min.ensures, c.min-k-end.ensures, c.loop-k-test.true) in
    let y_in : k < length ys = omega (arith, c.min.ensures, c.min-k-end.ensures, c.loop-k-test.true) in
    let x = get_or xs k 0 in
    let y = get_or ys k 0 in (
      λ h. absurd (false≢true h),
      λ variant. c.if-not-varies.ensures.1 (variant k (get_or signs k Plus) x y (c.args-xs.ensures.within k x_in) (c.args-ys.ensures.within k y_in) (record {
        sign = ap (λ l. slice_get l k) (sym c.signs-signs.ensures) ∙ slice_get-get_or signs k Plus sign_in;
        first = argument s.types xs _ c.args-xs.ensures.numbers k x_in;
        second = argument s.types ys _ c.args-ys.ensures.numbers k y_in;
      })),
    )

pub loop-k-preserved : goal.loop-k-preserved
loop-k-preserved c = λ place sign x y below at_sign at_x at_y.
    elim (cases_order place c.loop-k.k) [
      | inl here ↦
          let P : Sign → ℕ → ℕ → Type 0 = VariesIn c.args.closed.now (bits_of c.args.matrix.now) in
          let ok = c.if-not-varies.ensures.0 refl in
          let sign_is = get_or_from_slice_get c.signs-signs.result.now c.loop-k.k sign Plus (subst (λ n. slice_get c.signs-signs.result.now n ≡ Some sign) here at_sign) in
          let x_is = get_or_from_slice_get c.args-xs.result.now c.loop-k.k x 0 (subst (λ n. slice_get c.args-xs.result.now n ≡ Some x) here at_x) in
          let y_is = get_or_from_slice_get c.args-ys.result.now c.loop-k.k y 0 (subst (λ n. slice_get c.args-ys.result.now n ≡ Some y) here at_y) in
          subst (λ a. P a x y) sign_is (subst (λ a. P (get_or c.signs-signs.result.now c.loop-k.k Plus) a y) x_is (subst (λ a. P (get_or c.signs-signs.result.now c.loop-k.k Plus) (get_or c.args-xs.result.now c.loop-k.k 0) a) y_is ok))
      | inr other ↦
          let low : place < c.loop-k.k = elim other [ inl less ↦ less | inr more ↦ absurd (omega arith) ] in
          c.loop-k.invariant place sign x y low at_sign at_x at_y
    ]

pub returns : goal.returns
returns c =
    let s = c.args.closed.now in
    let xs = c.args-xs.result.now in
    let ys = c.args-ys.result.now in
    let signs = c.signs-signs.result.now in (
      λ _ place sign x y x_in y_in p.
          let at_sign : slice_get signs place ≡ Some sign = ap (λ l. slice_get l place) c.signs-signs.ensures ∙ p.sign in
          let at_x = number_at s c.requires.distinct xs _ c.args-xs.ensures.numbers place x x_in p.first in
          let at_y = number_at s c.requires.distinct ys _ c.args-ys.ensures.numbers place y y_in p.second in
          let below : place < c.loop-k.k = omega (arith, slice_get_within signs place sign at_sign, slice_get_within xs place x at_x, slice_get_within ys place y at_y, c.min.ensures, c.min-k-end.ensures, c.loop-k-test.false) in
          c.loop-k.invariant place sign x y below at_sign at_x at_y,
      λ _. refl,
    )
