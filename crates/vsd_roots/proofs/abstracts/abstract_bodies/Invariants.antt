-- The declarations of lower depths are marked.
use Rattle.std.proofs.Common.{◌*◌}
use Rattle.vsd_roots.specs.Bodies.{MarksBelow}
use Rattle.vsd_roots.proofs.abstracts.abstract_bodies.Given as goal

abbrev pub invariant-loop-depth : goal.invariant-loop-depth
invariant-loop-depth l = MarksBelow l.h.decls.now l.h.depths.now (1024 * l.depth) l.marks.items
