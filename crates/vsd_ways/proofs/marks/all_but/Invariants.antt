-- Of the owners before this place those that are wanted have no mark.
use Rattle.std.proofs.Common.{◌≡◌, ℕ, ◌<◌, length}
use Rattle.vsd_ways.specs.Known.{IsMarked}
use Rattle.vsd_ways.proofs.marks.all_but.Given as goal

abbrev pub invariant-loop-o : goal.invariant-loop-o
invariant-loop-o l = record {
  long : length l.marks ≡ 64;
  none : (p : ℕ) → p < l.o → IsMarked l.wanted p → ¬ IsMarked l.marks p;
}
