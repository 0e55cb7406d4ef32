use Rattle.std.proofs.Common.{◌≡◌, ℕ, ◌+◌, ◌*◌, sym, ap, subst, arith}
use Rattle.vsd_layers.specs.Layers.{IsNextAt, or_end}
use Rattle.vsd_layers.proofs.LayerLemmas.{in_layer}
use Rattle.vsd_roots.specs.Order.{IsShallower, TabulatesBelow}
use Rattle.vsd_roots.proofs.LayerLemmas.{below-layer, layer_gap}
use Rattle.vsd_roots.proofs.TableLemmas.{below-skip}
use Rattle.vsd_roots.proofs.links.shallower_depth.Goals as goal

pub loop-next-init : goal.loop-next-init
loop-next-init c =
    let h = c.args.h.now in
    let ds = h.decls.now in
    let depths = h.depths.now in
    let depth = c.args.depth in
    let few = c.requires.settled.few in
    let long = c.requires.settled.hierarchy.deep.count in
    let next = c.first-next.result in
    let are : IsNextAt depths depth 0 next = c.first-next.ensures depths c.requires.layers in
    let gap = layer_gap ds depths depth 0 next few long are in
    record {
      comes = (0, are);
      filled = below-skip ds depths (IsShallower ds depths) c.args.rows.now (1024 * depth + 0) (1024 * depth + or_end next) gap (subst (λ (n : ℕ). TabulatesBelow ds depths n (IsShallower ds depths) c.args.rows.now) (omega arith) c.requires.filled);
    }

pub loop-next-preserved : goal.loop-next-preserved
loop-next-preserved c =
    let h = c.args.h.now in
    let ds = h.decls.now in
    let depths = h.depths.now in
    let depth = c.args.depth in
    let few = c.requires.settled.few in
    let long = c.requires.settled.hierarchy.deep.count in
    let at = c.in-Some.at in
    let next = c.after-next.result in
    let was = c.loop-next.invariant in
    let reach : or_end c.loop-next.next ≡ at = ap or_end c.in-Some.is in
    let here = in_layer depths depth was.comes.0 at c.loop-next.next c.in-Some.is was.comes.1 in
    let follows : IsNextAt depths depth (at + 1) next = subst (λ (d : ℕ). IsNextAt depths d (at + 1) next) here.1 (c.after-next.ensures depths c.requires.layers here.0) in
    let before = subst (λ (n : ℕ). TabulatesBelow ds depths (1024 * depth + n) (IsShallower ds depths) c.loop-next.rows) reach was.filled in
    record {
      comes = (at + 1, follows);
      filled = subst (λ l. TabulatesBelow ds depths (1024 * depth + or_end next) (IsShallower ds depths) l) (sym c.set.ensures) (below-layer ds depths (IsShallower ds depths) c.loop-next.rows depth at next c.in_ok-row.row few long here follows c.in_ok-row.ensures before);
    }
