-- The declarations below the rank of the next one have their rows.
use Rattle.std.proofs.Common.{ℕ, ◌+◌, ◌-◌, ◌*◌}
use Rattle.vsd_layers.specs.Layers.{IsNextAt, or_end}
use Rattle.vsd_roots.specs.Order.{TabulatesBelow}
use Rattle.vsd_roots.specs.Slots.{IsRoot}
use Rattle.vsd_roots.proofs.rooting.roots_depth.Given as goal

abbrev pub invariant-loop-next : goal.invariant-loop-next
invariant-loop-next l = record {
  comes : (from : ℕ) × IsNextAt l.h.depths.now l.depth from l.next;
  filled : TabulatesBelow l.h.decls.now l.h.depths.now (1024 * l.depth + or_end l.next) (IsRoot l.h.decls.now) l.roots;
}

abbrev pub decreases-loop-next : goal.decreases-loop-next
decreases-loop-next l = 1024 - or_end l.next
