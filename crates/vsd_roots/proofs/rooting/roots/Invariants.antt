-- The declarations of lower depths have their rows.
use Rattle.std.proofs.Common.{◌*◌}
use Rattle.vsd_roots.specs.Order.{TabulatesBelow}
use Rattle.vsd_roots.specs.Slots.{IsRoot}
use Rattle.vsd_roots.proofs.rooting.roots.Given as goal

abbrev pub invariant-loop-depth : goal.invariant-loop-depth
invariant-loop-depth l = TabulatesBelow l.h.decls.now l.h.depths.now (1024 * l.depth) (IsRoot l.h.decls.now) l.made
