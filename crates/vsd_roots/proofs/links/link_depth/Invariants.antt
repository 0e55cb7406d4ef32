-- The methods of the declarations below the rank of the next one are the latest of their names, and have their links.
use Rattle.std.proofs.Common.{ℕ, ◌+◌, ◌-◌, ◌*◌}
use Rattle.std.specs.HashMap.{get}
use Rattle.vsd_layers.specs.Layers.{IsNextAt, or_end}
use Rattle.vsd_roots.specs.Order.{same_name, AreLatest, IsLink, TabulatesBelow}
use Rattle.vsd_roots.proofs.links.link_depth.Given as goal

abbrev pub invariant-loop-next : goal.invariant-loop-next
invariant-loop-next l = record {
  comes : (from : ℕ) × IsNextAt l.h.depths.now l.depth from l.next;
  latest : AreLatest l.h.decls.now l.h.depths.now ((1024 * l.depth + or_end l.next) * 256) (get same_name l.latest);
  filled : TabulatesBelow l.h.decls.now l.h.depths.now (1024 * l.depth + or_end l.next) (IsLink l.h.decls.now l.h.depths.now) l.rows;
}

abbrev pub decreases-loop-next : goal.decreases-loop-next
decreases-loop-next l = 1024 - or_end l.next
