-- The methods of the declarations of lower depths are the latest of their names, and have their links.
use Rattle.std.proofs.Common.{◌*◌}
use Rattle.std.specs.HashMap.{get}
use Rattle.vsd_roots.specs.Order.{same_name, AreLatest, IsLink, IsShallower, TabulatesBelow}
use Rattle.vsd_roots.proofs.links.links.Given as goal

abbrev pub invariant-loop-depth : goal.invariant-loop-depth
invariant-loop-depth l = record {
  latest : AreLatest l.h.decls.now l.h.depths.now (1024 * l.depth * 256) (get same_name l.latest);
  before : TabulatesBelow l.h.decls.now l.h.depths.now (1024 * l.depth) (IsLink l.h.decls.now l.h.depths.now) l.before;
  shallower : TabulatesBelow l.h.decls.now l.h.depths.now (1024 * l.depth) (IsShallower l.h.decls.now l.h.depths.now) l.shallower;
}
