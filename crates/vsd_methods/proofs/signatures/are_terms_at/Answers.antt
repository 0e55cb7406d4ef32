use Rattle.std.proofs.Common.{◌≡◌, ◌<◌, length, Some, sym, ap, ◌∙◌, arith}
use Rattle.std.specs.List.{slice_get}
use Rattle.std.proofs.lemmas.Bool.{false≢true}
use Rattle.std.proofs.lemmas.List.{take_more}
use Rattle.std.proofs.lemmas.Option.{slice_get-get_or}
use Rattle.vsd_terms.specs.Substitution.{subst_of}
use Rattle.vsd_terms.proofs.PlaceLemmas.{slice_get-map_at, take_more-map}
use Rattle.vsd_methods.proofs.signatures.are_terms_at.Goals as goal

pub loop-i-preserved : goal.loop-i-preserved
loop-i-preserved c =
    let i = c.loop-i.i in
    let wholes = c.args.wholes.now in
    let ts = c.args.ts.now in
    let whole_in : i < length wholes = omega arith in
    let t_in : i < length ts = omega arith in
    let same : c.index-wholes-i.result ≡ subst_of c.args.args.now c.index-ts-i.result = c.is_instance.ensures.0 c.if-not-is_instance.false in
    let left = take_more wholes i c.index-wholes-i.result whole_in in
    let right = take_more-map (subst_of c.args.args.now) ts i c.index-ts-i.result t_in c.index-ts-i.is in
    let before = c.loop-i.invariant in
    cc

pub returns-then-not-is_instance : goal.returns-then-not-is_instance
returns-then-not-is_instance c =
    let i = c.loop-i.i in
    let wholes = c.args.wholes.now in
    let ts = c.args.ts.now in
    let x = c.index-wholes-i.result in
    let whole_in : i < length wholes = omega arith in
    let t_in : i < length ts = omega arith in
    let left : slice_get wholes i ≡ Some x = slice_get-get_or wholes i x whole_in ∙ ap Some (sym c.index-wholes-i.is) in
    let right = slice_get-map_at (subst_of c.args.args.now) ts i c.index-ts-i.result t_in c.index-ts-i.is in
    (λ none. absurd (false≢true none), λ e. sym c.if-not-is_instance.true ∙ c.is_instance.ensures.1 cc)
