-- The answers before this place are known.
use Rattle.std.proofs.Common.{ℕ, ◌<◌, List, IsSome}
use Rattle.std.specs.HashMap.{get}
use Rattle.vsd_ast.specs.declared.declarations.Decl.{Decl}
use Rattle.vsd_overrides.specs.Known.{AreKnown, KnowsAt, TellsOf, same_question}
use Rattle.vsd_overrides.specs.declared.asked.Question.{Question}
use Rattle.vsd_overrides.proofs.owners.tell.Given as goal

abbrev pub invariant-loop-o : goal.invariant-loop-o
invariant-loop-o l = record {
  known : (ds : List Decl) → AreKnown ds (get same_question l.fn.known) → TellsOf ds l.asked l.first l.had
      → AreKnown ds (get same_question l.known);
  each : (p : ℕ) → p < l.o → KnowsAt (get same_question l.known) l.asked p;
  before : (q : Question) → IsSome (get same_question l.fn.known q) → IsSome (get same_question l.known q);
}
