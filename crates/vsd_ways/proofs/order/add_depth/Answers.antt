use Rattle.std.proofs.Common.{◌≡◌, ℕ, ◌+◌, length, refl, ap, subst}
use Rattle.vsd_layers.specs.Layers.{IsNextAt, or_end}
use Rattle.vsd_layers.proofs.LayerLemmas.{in_layer}
use Rattle.vsd_ways.specs.Order.{IsOrderTo}
use Rattle.vsd_ways.proofs.OrderLemmas.{order_next, order_push, order_skip}
use Rattle.vsd_ways.proofs.order.add_depth.Goals as goal

pub loop-next-init : goal.loop-next-init
loop-next-init c =
    let depths = c.args.depths.now in
    let next = c.first-next.result in
    let are : IsNextAt depths c.args.depth 0 next = c.first-next.ensures depths c.requires.layers in
    record {
      comes = (0, are);
      ordered = order_skip (length depths) depths c.args.depth 0 next c.args.order.now.items refl are c.requires.before;
    }

pub loop-next-preserved : goal.loop-next-preserved
loop-next-preserved c =
    let depths = c.args.depths.now in
    let depth = c.args.depth in
    let at = c.in-Some.at in
    let next = c.after-next.result in
    let was = c.loop-next.invariant in
    let reach : or_end c.loop-next.next ≡ at = ap or_end c.in-Some.is in
    let here = in_layer depths depth was.comes.0 at c.loop-next.next c.in-Some.is was.comes.1 in
    let follows : IsNextAt depths depth (at + 1) next = subst (λ (d : ℕ). IsNextAt depths d (at + 1) next) here.1 (c.after-next.ensures depths c.requires.layers here.0) in
    let more = c.push.new.self.items in
    let before = subst (λ (n : ℕ). IsOrderTo (length depths) depths depth n c.loop-next.order.items) reach was.ordered in
    let put = order_push (length depths) depths depth at c.loop-next.order.items more c.in_ok-push.ensures.items here.1 here.0 before in
    record {
      comes = (at + 1, follows);
      ordered = order_skip (length depths) depths depth (at + 1) next more refl follows put;
    }

pub returns : goal.returns
returns c =
    let depths = c.args.depths.now in
    let order = c.loop-next.order.items in
    let last = subst (λ (n : ℕ). IsOrderTo (length depths) depths c.args.depth n order) (ap or_end c.in_default.is) c.loop-next.invariant.ordered in
    order_next (length depths) depths c.args.depth 1024 order c.requires.few last
