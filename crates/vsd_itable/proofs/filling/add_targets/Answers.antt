use Rattle.std.proofs.Common.{Fits, w32, rules}
use Rattle.vsd_itable.proofs.FillLaws.{targets-push}
use Rattle.vsd_itable.proofs.filling.add_targets.Goals as goal

pub loop-k-preserved : goal.loop-k-preserved
loop-k-preserved c =
    let low : Fits w32 c.target_number.result = search rules in
    targets-push c.args.parts.now.closed.now c.args.tokens.now c.args.numbers.now.methods.items c.args.t c.loop-k.k c.args.entries.now.items c.loop-k.entries.items c.push.new.self.items c.target_number.result low.fits c.loop-k.invariant c.target_number.ensures c.in_ok-push.ensures.items
