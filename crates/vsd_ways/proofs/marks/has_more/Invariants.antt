-- Whether a mark before this place is missing.
use Rattle.std.proofs.Common.{◌≡◌, ℕ, ◌<◌, ◌↔◌, false}
use Rattle.vsd_ways.specs.Known.{IsMarked}
use Rattle.vsd_ways.proofs.marks.has_more.Given as goal

abbrev pub invariant-loop-o : goal.invariant-loop-o
invariant-loop-o l = (l.more ≡ false) ↔ ((p : ℕ) → p < l.o → IsMarked l.marks p → IsMarked l.there p)
