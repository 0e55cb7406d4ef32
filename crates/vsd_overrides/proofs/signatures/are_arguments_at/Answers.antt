use Rattle.std.proofs.Common.{◌≡◌, ◌<◌, length, arith}
use Rattle.std.proofs.lemmas.List.{take_more}
use Rattle.vsd_terms.specs.Substitution.{parameters_of, subst_of}
use Rattle.vsd_terms.proofs.PlaceLemmas.{take_more-map, greatest-drop}
use Rattle.vsd_overrides.proofs.signatures.are_arguments_at.Goals as goal

pub loop-i-preserved : goal.loop-i-preserved
loop-i-preserved c =
    let i = c.loop-i.i in
    let wholes = c.args.wholes.now in
    let ts = c.args.ts.now in
    let whole_in : i < length wholes = omega arith in
    let t_in : i < length ts = omega (arith, c.loop-i.invariant.long) in
    let same : c.index-wholes-i.result ≡ subst_of c.args.args.now c.index-ts-i.result = c.is_instance.ensures.0 c.if-not-is_instance.false in
    let left = take_more wholes i c.index-wholes-i.result whole_in in
    let right = take_more-map (subst_of c.args.args.now) ts i c.index-ts-i.result t_in c.index-ts-i.is in
    record {
      long = c.loop-i.invariant.long;
      before = cc;
      fits = (greatest-drop parameters_of ts i (length c.args.args.now) c.index-ts-i.result t_in c.index-ts-i.is c.loop-i.invariant.fits).1;
    }
