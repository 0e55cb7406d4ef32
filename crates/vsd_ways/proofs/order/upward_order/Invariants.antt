-- The order has the declarations of less depth.
use Rattle.std.proofs.Common.{length}
use Rattle.vsd_ways.specs.Order.{IsOrderTo}
use Rattle.vsd_ways.proofs.order.upward_order.Given as goal

abbrev pub invariant-loop-depth : goal.invariant-loop-depth
invariant-loop-depth l = IsOrderTo (length l.depths) l.depths l.depth 0 l.order.items
