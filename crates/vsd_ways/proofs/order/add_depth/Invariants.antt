-- The order has the declarations of less depth, and those of this depth before the next one.
use Rattle.std.proofs.Common.{ℕ, ◌-◌, length}
use Rattle.vsd_layers.specs.Layers.{IsNextAt, or_end}
use Rattle.vsd_ways.specs.Order.{IsOrderTo}
use Rattle.vsd_ways.proofs.order.add_depth.Given as goal

abbrev pub invariant-loop-next : goal.invariant-loop-next
invariant-loop-next l = record {
  comes : (from : ℕ) × IsNextAt l.depths l.depth from l.next;
  ordered : IsOrderTo (length l.depths) l.depths l.depth (or_end l.next) l.order.items;
}

abbrev pub decreases-loop-next : goal.decreases-loop-next
decreases-loop-next l = 1024 - or_end l.next
