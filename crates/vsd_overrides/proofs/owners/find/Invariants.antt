-- The answers before this place are known.
use Rattle.std.proofs.Common.{ℕ, ◌<◌, ◌-◌, length, IsSome}
use Rattle.std.specs.HashMap.{get}
use Rattle.vsd_overrides.specs.Known.{AreKnown, KnowsAt, same_question}
use Rattle.vsd_overrides.specs.declared.asked.Question.{Question}
use Rattle.vsd_overrides.proofs.owners.find.Given as goal

abbrev pub invariant-loop-from : goal.invariant-loop-from
invariant-loop-from l = record {
  known : AreKnown l.h.decls.now (get same_question l.known);
  each : (o : ℕ) → o < l.from → KnowsAt (get same_question l.known) l.asked o;
  before : (q : Question) → IsSome (get same_question l.fn.known q) → IsSome (get same_question l.known q);
}

abbrev pub decreases-loop-from : goal.decreases-loop-from
decreases-loop-from l = length l.asked - l.from
