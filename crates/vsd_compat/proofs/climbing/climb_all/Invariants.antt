use Rattle.vsd_compat.specs.Improving.{Improves}
use Rattle.vsd_compat.proofs.climbing.climb_all.Given as goal

abbrev pub invariant-loop-round : goal.invariant-loop-round
invariant-loop-round l = Improves l.closed l.initial.matrix l.matrix
