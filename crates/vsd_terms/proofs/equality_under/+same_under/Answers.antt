use Rattle.std.proofs.Common.{◌<◌, length, arith, sym, ◌∙◌, ap}
use Rattle.std.proofs.lemmas.Bool.{false≢true}
use Rattle.vsd_terms.specs.Substitution.{parameters_of, subst_of}
use Rattle.vsd_terms.proofs.PlaceLemmas.{slice_get-map_at, take_more-map, greatest-drop}
use Rattle.vsd_terms.proofs.SubstitutionLemmas.{same_arguments, same_named, subst_of-Named}
use Rattle.vsd_terms.proofs.equality_under.+same_under.Goals as goal

pub all_same_under-loop-i-preserved : goal.all_same_under-loop-i-preserved
all_same_under-loop-i-preserved m c =
    let i = c.loop-i.i in
    let xs = c.as_slice-xs.result.now in
    let ys = c.as_slice-ys.result.now in
    let x_in : i < length xs = omega arith in
    let y_in : i < length ys = omega (arith, c.loop-i.invariant.long) in
    let left = take_more-map (subst_of c.args.x_args.now) xs i c.index-xs-i.result x_in c.index-xs-i.is in
    let right = take_more-map (subst_of c.args.y_args.now) ys i c.index-ys-i.result y_in c.index-ys-i.is in
    let same = c.same_under.ensures.0 c.if-not-same_under.false in
    record {
      long = c.loop-i.invariant.long;
      before = cc;
      xs_fit = (greatest-drop parameters_of xs i (length c.args.x_args.now) c.index-xs-i.result x_in c.index-xs-i.is c.loop-i.invariant.xs_fit).1;
      ys_fit = (greatest-drop parameters_of ys i (length c.args.y_args.now) c.index-ys-i.result y_in c.index-ys-i.is c.loop-i.invariant.ys_fit).1;
    }

pub all_same_under-returns-then-not-same_under : goal.all_same_under-returns-then-not-same_under
all_same_under-returns-then-not-same_under m c =
    let i = c.loop-i.i in
    let xs = c.as_slice-xs.result.now in
    let ys = c.as_slice-ys.result.now in
    let x_in : i < length xs = omega arith in
    let y_in : i < length ys = omega (arith, c.loop-i.invariant.long) in
    let left = slice_get-map_at (subst_of c.args.x_args.now) xs i c.index-xs-i.result x_in c.index-xs-i.is in
    let right = slice_get-map_at (subst_of c.args.y_args.now) ys i c.index-ys-i.result y_in c.index-ys-i.is in
    (λ none. absurd (false≢true none), λ e. sym c.if-not-same_under.true ∙ c.same_under.ensures.1 cc)

pub same_under-returns-then-x-y : goal.same_under-returns-then-x-y
same_under-returns-then-x-y m c =
    let a = ap (subst_of c.args.a_args.now) c.in-Named-Named.is-0 ∙ subst_of-Named c.args.a_args.now c.in-Named-Named.x c.in-Named-Named.xs in
    let b = ap (subst_of c.args.b_args.now) c.in-Named-Named.is-1 ∙ subst_of-Named c.args.b_args.now c.in-Named-Named.y c.in-Named-Named.ys in
    (λ h. a ∙ same_named _ _ _ _ c.if-x-y.true (c.all_same_under.ensures.0 h) ∙ sym b, λ e. c.all_same_under.ensures.1 (same_arguments _ _ _ _ (sym a ∙ e ∙ b)))
