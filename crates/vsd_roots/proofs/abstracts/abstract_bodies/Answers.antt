use Rattle.std.proofs.Common.{◌*◌, ◌≤◌, arith}
use Rattle.vsd_roots.proofs.AbstractLemmas.{marks-end}
use Rattle.vsd_roots.proofs.LayerLemmas.{all_below}
use Rattle.vsd_roots.proofs.abstracts.abstract_bodies.Goals as goal

pub returns : goal.returns
returns c =
    let h = c.args.h.now in
    let past : c.count-depth-end.result ≤ c.loop-depth.depth = omega arith in
    marks-end h.decls.now h.depths.now c.loop-depth.marks.items (1024 * c.loop-depth.depth) (all_below h.decls.now h.depths.now c.count-depth-end.result c.loop-depth.depth c.requires.settled.few c.requires.settled.hierarchy.deep.count (c.count-depth-end.ensures h.depths.now c.in_ok-layers.ensures) past) c.loop-depth.invariant
