use Rattle.vsd_compat.proofs.Improving.{Improves-twice}
use Rattle.vsd_compat.proofs.climbing.climb_each.Goals as goal

pub loop-k-preserved : goal.loop-k-preserved
loop-k-preserved c = Improves-twice _ _ _ _ c.loop-k.invariant c.climb-changed.ensures
