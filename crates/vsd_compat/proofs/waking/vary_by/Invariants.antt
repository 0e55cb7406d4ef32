use Rattle.vsd_compat.specs.Improving.{Improves}
use Rattle.vsd_compat.proofs.waking.vary_by.Given as goal

abbrev pub invariant-loop-u : goal.invariant-loop-u
invariant-loop-u l = Improves l.closed l.initial.matrix l.matrix
