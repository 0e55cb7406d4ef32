-- The owners of the questions before this place are marked.
use Rattle.std.proofs.Common.{◌≡◌, ℕ, ◌-◌, ◌<◌, length, Some}
use Rattle.std.specs.List.{slice_get}
use Rattle.vsd_ways.specs.Known.{IsMarked}
use Rattle.vsd_overrides.specs.declared.numbered.Numbered.{Numbered}
use Rattle.vsd_overrides.proofs.owners.wanted.Given as goal

abbrev pub invariant-loop-o : goal.invariant-loop-o
invariant-loop-o l = record {
  long : length l.marks ≡ 64;
  each : (p : ℕ) (n : Numbered) → p < l.o → slice_get l.asked p ≡ Some n → IsMarked l.marks (n.number - l.first);
}
