use Rattle.std.proofs.Common.{length, arith}
use Rattle.vsd_ways.proofs.OrderLemmas.{order_end}
use Rattle.vsd_ways.proofs.order.upward_order.Goals as goal

pub returns : goal.returns
returns c =
    let depths = c.args.depths.now in
    order_end (length depths) depths c.loop-depth.depth c.count-depth-end.result c.loop-depth.order.items (c.count-depth-end.ensures depths c.in_ok-layers.ensures) (omega arith) c.loop-depth.invariant
