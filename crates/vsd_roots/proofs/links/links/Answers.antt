use Rattle.std.proofs.Common.{◌*◌, ◌≤◌, arith}
use Rattle.vsd_roots.specs.Order.{IsLink, IsShallower}
use Rattle.vsd_roots.proofs.LayerLemmas.{all_below}
use Rattle.vsd_roots.proofs.TableLemmas.{below-end}
use Rattle.vsd_roots.proofs.links.links.Goals as goal

pub returns-clause-before : goal.returns-clause-before
returns-clause-before c =
    let h = c.args.h.now in
    let past : c.count-depth-end.result ≤ c.loop-depth.depth = omega arith in
    below-end h.decls.now h.depths.now (IsLink h.decls.now h.depths.now) c.loop-depth.before (1024 * c.loop-depth.depth) (all_below h.decls.now h.depths.now c.count-depth-end.result c.loop-depth.depth c.requires.few c.requires.hierarchy.deep.count (c.count-depth-end.ensures h.depths.now c.in_ok-layers.ensures) past) c.loop-depth.invariant.before

pub returns-clause-shallower : goal.returns-clause-shallower
returns-clause-shallower c =
    let h = c.args.h.now in
    let past : c.count-depth-end.result ≤ c.loop-depth.depth = omega arith in
    below-end h.decls.now h.depths.now (IsShallower h.decls.now h.depths.now) c.loop-depth.shallower (1024 * c.loop-depth.depth) (all_below h.decls.now h.depths.now c.count-depth-end.result c.loop-depth.depth c.requires.few c.requires.hierarchy.deep.count (c.count-depth-end.ensures h.depths.now c.in_ok-layers.ensures) past) c.loop-depth.invariant.shallower
