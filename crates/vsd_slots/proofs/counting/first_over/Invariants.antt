-- The slots of the types before this one are within the limit.
use Rattle.std.proofs.Common.{ℕ, ◌<◌, ◌≤◌}
use Rattle.vsd_slots.specs.Refusals.{IsTotal, IsWithinLimit}
use Rattle.vsd_slots.proofs.counting.first_over.Given as goal

abbrev pub invariant-loop-t : goal.invariant-loop-t
invariant-loop-t l = record {
  totalled : IsTotal l.closed l.t l.total;
  few : l.total ≤ 262144;
  within : (t : ℕ) → t < l.t → IsWithinLimit l.closed t;
}
