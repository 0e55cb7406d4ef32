use Rattle.vsd_compat.specs.Improving.{Improves}
use Rattle.vsd_compat.proofs.climbing.climb_each.Given as goal

abbrev pub invariant-loop-k : goal.invariant-loop-k
invariant-loop-k l = Improves l.closed l.initial.matrix l.matrix
