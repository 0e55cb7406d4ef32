use Rattle.std.proofs.Common.{◌≡◌, ◌-◌, ℕ, List, length, Option}
use Rattle.vsd_grammar.specs.declared.token_class.TokenClass.{TokenClass}
use Rattle.vsd_grammar.specs.declared.cause.Cause.{Cause}
use Rattle.vsd_grammar.specs.Input.{Input}
use Rattle.vsd_grammar.specs.Grammar.{Outcome, items}
use Rattle.vsd_grammar.specs.Loops.{ComputesOfToken, ReadsAs}
use Rattle.vsd_grammar.proofs.ListSteps.{left_after}
use Rattle.vsd_grammar.proofs.loops.separated.Given as goal

abbrev pub invariant-items : goal.invariant-items
invariant-items g l = (f : TokenClass → List ℕ → Option Cause) (p : Input → Outcome _) → ComputesOfToken (goal.W-post g l.first) f → ReadsAs (goal.F-post g l.item) p
    → items f l.many p l.most l.fn.cursor ≡ left_after f l.many p l.most l.found l.cursor

abbrev pub decreases-items : goal.decreases-items
decreases-items g l = l.most - length l.found
