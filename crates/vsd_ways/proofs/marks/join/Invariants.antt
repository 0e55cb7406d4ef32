-- The marks before this place are joined.
use Rattle.std.proofs.Common.{ℕ, ◌<◌, ◌↔◌, ◌⊎◌}
use Rattle.vsd_ways.specs.Known.{IsMarked}
use Rattle.vsd_ways.proofs.marks.join.Given as goal

abbrev pub invariant-loop-o : goal.invariant-loop-o
invariant-loop-o l = (p : ℕ) → IsMarked l.there p ↔ (IsMarked l.fn.there p ⊎ ((p < l.o) × IsMarked l.marks p))
