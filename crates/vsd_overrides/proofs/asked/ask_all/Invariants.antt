-- The owners of the overrides of the classes before this one are asked for or known.
use Rattle.std.proofs.Common.{◌≡◌, ℕ, ◌<◌, length, Some}
use Rattle.std.specs.HashMap.{get}
use Rattle.std.specs.HashSet.{contains}
use Rattle.std.specs.List.{slice_get}
use Rattle.vsd_ast.specs.declared.declarations.Decl.{Decl}
use Rattle.vsd_overrides.specs.Known.{AreAskedOrKnown, AreKnown, AreWithin, same_question}
use Rattle.vsd_overrides.proofs.asked.ask_all.Given as goal

abbrev pub invariant-loop-at : goal.invariant-loop-at
invariant-loop-at l = record {
  known : AreKnown l.h.decls.now (get same_question l.known);
  asked : AreWithin (length l.h.decls.now) l.asked.keys;
  each : (n : ℕ) (x : Decl) → n < l.at → slice_get l.h.decls.now n ≡ Some x
      → AreAskedOrKnown (contains same_question l.asked) (get same_question l.known) n x.overrides;
}
