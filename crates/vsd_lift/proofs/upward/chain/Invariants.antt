-- Each declaration so far extends the next, and this one is the last.
use Rattle.std.proofs.Common.{get_or}
use Rattle.vsd_lift.proofs.ChainLemmas.{IsPartial}
use Rattle.vsd_lift.proofs.upward.chain.Given as goal

abbrev pub invariant-loop-above : goal.invariant-loop-above
invariant-loop-above l = IsPartial l.h.decls.now l.from l.made.items l.at

abbrev pub decreases-loop-above : goal.decreases-loop-above
decreases-loop-above l = get_or l.h.depths.now l.at 0
