use Rattle.vsd_compat.specs.Improving.{Improves}
use Rattle.vsd_compat.proofs.waking.wake.Given as goal

abbrev pub invariant-loop-below : goal.invariant-loop-below
invariant-loop-below l = Improves l.closed l.initial.matrix l.matrix

abbrev pub invariant-loop-user : goal.invariant-loop-user
invariant-loop-user l = Improves l.closed l.initial.matrix l.matrix
