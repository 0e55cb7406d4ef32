-- The buckets before this one are marked.
use Rattle.std.proofs.Common.{◌≡◌, ℕ, ◌<◌, length, get_or}
use Rattle.vsd_slots.specs.Marks.{IsFree}
use Rattle.vsd_slots.proofs.marking.marks_of.Given as goal

abbrev pub invariant-loop-k : goal.invariant-loop-k
invariant-loop-k l = record {
  long : length l.marks ≡ 256;
  marked : (j : ℕ) → j < l.k → IsFree l.marks (get_or l.buckets j 0) → ⊥;
}
