-- The methods so far that have this name.
use Rattle.std.proofs.Common.{◌≡◌, ◌≤◌}
use Rattle.vsd_slots.specs.Texts.{namesakes}
use Rattle.vsd_slots.proofs.texts.namesakes.Given as goal

abbrev pub invariant-loop-k : goal.invariant-loop-k
invariant-loop-k l = record {
  count : l.found ≡ namesakes l.methods l.name l.k;
  few : l.found ≤ l.k;
}
