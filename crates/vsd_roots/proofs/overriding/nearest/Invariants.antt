-- The nearest match, if there is one, is this method or one further on.
use Rattle.vsd_roots.specs.Levels.{IsStart, ranks_from}
use Rattle.vsd_roots.proofs.overriding.nearest.Given as goal

abbrev pub invariant-loop-next : goal.invariant-loop-next
invariant-loop-next l = IsStart l.h.decls.now l.h.depths.now l.chain l.method l.next

abbrev pub decreases-loop-next : goal.decreases-loop-next
decreases-loop-next l = ranks_from l.h.depths.now l.next
