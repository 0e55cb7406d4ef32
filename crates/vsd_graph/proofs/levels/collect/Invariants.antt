-- The levels of the marks so far.
use Rattle.std.proofs.Common.{◌≡◌, map, take}
use Rattle.vsd_graph.specs.Marks.{level_in}
use Rattle.vsd_graph.proofs.levels.collect.Given as goal

abbrev pub invariant-loop-mark : goal.invariant-loop-mark
invariant-loop-mark l = l.levels.items ≡ map level_in (take l.mark-index l.marks)
