use Rattle.std.proofs.Common.{ℕ, List, map, sym, ap, ◌∙◌, subst, arith}
use Rattle.vsd_graph.specs.Graph.{AreLevels}
use Rattle.vsd_graph.specs.Marks.{level_in}
use Rattle.vsd_graph.proofs.LevelLemmas.{AreLevels-marks}
use Rattle.vsd_graph.proofs.levels.place_levels.Goals as goal

pub returns : goal.returns
returns c =
    let g = c.args.graph.now in
    let inv = c.loop-at.invariant in
    let are = c.in_ok-collect.ensures ∙ ap (map level_in) c.deref.ensures.value in
    subst (λ (levels : List ℕ). AreLevels g levels) (sym are) (AreLevels-marks g c.loop-at.marks.items inv.sound (λ i within. inv.done i (omega arith)))
