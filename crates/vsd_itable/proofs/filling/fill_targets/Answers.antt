use Rattle.vsd_itable.proofs.FillLaws.{rows-more}
use Rattle.vsd_itable.proofs.filling.fill_targets.Goals as goal

pub loop-t-preserved : goal.loop-t-preserved
loop-t-preserved c =
    rows-more c.args.parts.now.closed.now c.args.tokens.now c.args.numbers.now.methods.items c.loop-t.t c.loop-t.entries.items c.add_targets.new.entries.items c.loop-t.invariant c.in_ok-add_targets.ensures
