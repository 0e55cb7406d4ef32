use Rattle.vsd_compat.specs.Improving.{Improves}
use Rattle.vsd_compat.proofs.variances.settle_soon.Given as goal

abbrev pub invariant-loop-turn : goal.invariant-loop-turn
invariant-loop-turn l = Improves l.closed l.initial.matrix l.matrix
