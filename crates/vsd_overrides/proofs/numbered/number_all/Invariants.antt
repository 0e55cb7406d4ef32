-- The questions before this place are numbered.
use Rattle.std.proofs.Common.{◌≡◌, ℕ, ◌<◌, Some}
use Rattle.std.specs.List.{slice_get}
use Rattle.vsd_overrides.specs.Known.{AreNumbered, AreWithin, HasQuestion}
use Rattle.vsd_overrides.specs.declared.asked.Question.{Question}
use Rattle.vsd_overrides.proofs.numbered.number_all.Given as goal

abbrev pub invariant-loop-i : goal.invariant-loop-i
invariant-loop-i l = record {
  numbers : (count : ℕ) → AreWithin count l.asked → AreNumbered count l.owners.keys l.all.items;
  each : (p : ℕ) (q : Question) → p < l.i → slice_get l.asked p ≡ Some q → HasQuestion l.all.items q;
}
