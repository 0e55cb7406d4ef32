-- The overrides before this one give nothing for a method that isn't marked.
use Rattle.std.proofs.Common.{◌≡◌, ℕ, ◌<◌, drop, length, get_or}
use Rattle.vsd_methods.specs.Givens.{answer_of}
use Rattle.vsd_slots.specs.Marks.{IsFree, StaysMarked}
use Rattle.vsd_methods.specs.Methods.{first_given}
use Rattle.vsd_slots.proofs.marking.mark_given.Given as goal

abbrev pub invariant-loop-k : goal.invariant-loop-k
invariant-loop-k l = record {
  marked : (m : ℕ) → m < length l.buckets → IsFree l.marks (get_or l.buckets m 0) → first_given (λ g. answer_of g l.i m) l.given ≡ first_given (λ g. answer_of g l.i m) (drop l.k l.given);
  stays : StaysMarked l.initial.marks l.marks;
}
