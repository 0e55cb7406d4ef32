use Rattle.std.proofs.Common.{◌<◌, length, sym, ◌∙◌, arith}
use Rattle.std.proofs.lemmas.Bool.{false≢true}
use Rattle.vsd_terms.specs.Substitution.{subst_of}
use Rattle.vsd_terms.proofs.PlaceLemmas.{slice_get-map_at, take_more-map}
use Rattle.vsd_methods.proofs.signatures.same_terms_under.Goals as goal

pub loop-i-preserved : goal.loop-i-preserved
loop-i-preserved c =
    let i = c.loop-i.i in
    let xs = c.args.xs.now in
    let ys = c.args.ys.now in
    let y_in : i < length ys = omega arith in
    let left = take_more-map (subst_of c.args.x_args.now) xs i c.index-xs-i.result c.loop-i-test.true c.index-xs-i.is in
    let right = take_more-map (subst_of c.args.y_args.now) ys i c.index-ys-i.result y_in c.index-ys-i.is in
    let same = c.same_under.ensures.0 c.if-not-same_under.false in
    let before = c.loop-i.invariant in
    cc

pub returns-then-not-same_under : goal.returns-then-not-same_under
returns-then-not-same_under c =
    let i = c.loop-i.i in
    let xs = c.args.xs.now in
    let ys = c.args.ys.now in
    let y_in : i < length ys = omega arith in
    let left = slice_get-map_at (subst_of c.args.x_args.now) xs i c.index-xs-i.result c.loop-i-test.true c.index-xs-i.is in
    let right = slice_get-map_at (subst_of c.args.y_args.now) ys i c.index-ys-i.result y_in c.index-ys-i.is in
    (λ none. absurd (false≢true none), λ e. sym c.if-not-same_under.true ∙ c.same_under.ensures.1 cc)
