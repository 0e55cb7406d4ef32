use Rattle.std.proofs.Common.{◌≡◌, ℕ, ◌+◌, ◌*◌, Bool, List, set, sym, ap, subst, arith}
use Rattle.vsd_layers.specs.Layers.{IsNextAt, or_end}
use Rattle.vsd_layers.proofs.LayerLemmas.{in_layer}
use Rattle.vsd_roots.specs.Bodies.{MarksBelow}
use Rattle.vsd_roots.specs.Order.{rank}
use Rattle.vsd_roots.proofs.AbstractLemmas.{marks-set, marks-skip}
use Rattle.vsd_roots.proofs.LayerLemmas.{layer_gap}
use Rattle.vsd_roots.proofs.abstracts.mark_depth.Goals as goal

pub has_abstract-requires-clause-marked : goal.has_abstract-requires-clause-marked
has_abstract-requires-clause-marked c =
    let h = c.args.h.now in
    let ds = h.decls.now in
    let depths = h.depths.now in
    let at = c.in-Some.at in
    let was = c.loop-next.invariant in
    let reach : or_end c.loop-next.next ≡ at = ap or_end c.in-Some.is in
    let here = in_layer depths c.args.depth was.comes.0 at c.loop-next.next c.in-Some.is was.comes.1 in
    let ranked : 1024 * c.args.depth + or_end c.loop-next.next ≡ rank depths at = omega (arith, here.1, reach) in
    subst (λ (l : List Bool). MarksBelow ds depths (rank depths at) l) (sym c.as_slice.ensures.value) (subst (λ (n : ℕ). MarksBelow ds depths n c.loop-next.marks.items) ranked was.filled)

pub loop-next-init : goal.loop-next-init
loop-next-init c =
    let h = c.args.h.now in
    let ds = h.decls.now in
    let depths = h.depths.now in
    let depth = c.args.depth in
    let few = c.requires.settled.few in
    let long = c.requires.settled.hierarchy.deep.count in
    let next = c.first-next.result in
    let are : IsNextAt depths depth 0 next = c.first-next.ensures depths c.requires.layers in
    let gap = layer_gap ds depths depth 0 next few long are in
    record {
      comes = (0, are);
      filled = marks-skip ds depths c.args.marks.now.items (1024 * depth + 0) (1024 * depth + or_end next) gap (subst (λ (n : ℕ). MarksBelow ds depths n c.args.marks.now.items) (omega arith) c.requires.marked);
    }

pub loop-next-preserved : goal.loop-next-preserved
loop-next-preserved c =
    let h = c.args.h.now in
    let ds = h.decls.now in
    let depths = h.depths.now in
    let depth = c.args.depth in
    let few = c.requires.settled.few in
    let long = c.requires.settled.hierarchy.deep.count in
    let at = c.in-Some.at in
    let next = c.after-next.result in
    let was = c.loop-next.invariant in
    let reach : or_end c.loop-next.next ≡ at = ap or_end c.in-Some.is in
    let here = in_layer depths depth was.comes.0 at c.loop-next.next c.in-Some.is was.comes.1 in
    let follows : IsNextAt depths depth (at + 1) next = subst (λ (d : ℕ). IsNextAt depths d (at + 1) next) here.1 (c.after-next.ensures depths c.requires.layers here.0) in
    let ranked : rank depths at ≡ 1024 * depth + at = omega (arith, here.1) in
    let before = subst (λ (n : ℕ). MarksBelow ds depths (1024 * depth + n) c.loop-next.marks.items) reach was.filled in
    let mark = c.in_ok-marks.field-0 in
    let step = marks-set ds depths c.loop-next.marks.items (1024 * depth + at) (1024 * depth + (at + 1)) at mark few (omega (arith, here.0)) ranked (omega arith) c.in_ok-marks.ensures before in
    record {
      comes = (at + 1, follows);
      filled = marks-skip ds depths (set c.loop-next.marks.items at mark) (1024 * depth + (at + 1)) (1024 * depth + or_end next) (layer_gap ds depths depth (at + 1) next few long follows) step;
    }
