-- The owners of the overrides before this place are asked for or known.
use Rattle.std.proofs.Common.{◌≡◌, ℕ, ◌<◌, length, Some}
use Rattle.std.specs.HashMap.{get}
use Rattle.std.specs.HashSet.{contains}
use Rattle.std.specs.List.{slice_get}
use Rattle.vsd_ast.specs.declared.declarations.Override.{Override}
use Rattle.vsd_overrides.specs.Known.{AreKnown, AreWithin, IsAskedOrKnown, same_question}
use Rattle.vsd_overrides.specs.declared.asked.Question.{Question}
use Rattle.vsd_overrides.proofs.asked.ask_class.Given as goal

abbrev pub invariant-loop-i : goal.invariant-loop-i
invariant-loop-i l = record {
  known : AreKnown l.h.decls.now (get same_question l.known);
  asked : AreWithin (length l.h.decls.now) l.asked.keys;
  each : (j : ℕ) (o : Override) → j < l.i → slice_get l.overrides j ≡ Some o
      → (q : Question) → q.class ≡ l.at → q.owner.now ≡ o.owner
      → IsAskedOrKnown (contains same_question l.asked) (get same_question l.known) q;
  before : (q : Question) → IsAskedOrKnown (contains same_question l.fn.asked) (get same_question l.fn.known) q
      → IsAskedOrKnown (contains same_question l.asked) (get same_question l.known) q;
}
