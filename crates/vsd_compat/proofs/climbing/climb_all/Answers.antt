use Rattle.vsd_compat.proofs.Improving.{Improves-twice}
use Rattle.vsd_compat.proofs.climbing.climb_all.Goals as goal

pub loop-round-preserved : goal.loop-round-preserved
loop-round-preserved c = Improves-twice _ _ _ _ c.loop-round.invariant c.climb_each.ensures
