use Rattle.std.proofs.Common.{◌≡◌, suc, ◌-◌, Bool}
use Rattle.vsd_grammar.specs.declared.token_class.TokenClass.{TokenClass}
use Rattle.vsd_grammar.specs.Input.{Input, left}
use Rattle.vsd_grammar.specs.Grammar.{Outcome, turns}
use Rattle.vsd_grammar.specs.Loops.{ComputesFirst, ReadsFrom}
use Rattle.vsd_grammar.proofs.loops.until.Given as goal

abbrev pub invariant-loop-turn : goal.invariant-loop-turn
invariant-loop-turn g l = (f : TokenClass → _ → Bool) (step : _ → Input → Outcome _) → ComputesFirst (goal.W-post g l.stop) f → ReadsFrom (goal.F-post g l.item) step
    → turns f step (suc (left l.fn.cursor)) l.fn.state l.fn.cursor ≡ turns f step (l._turn-end - l._turn) l.state l.cursor
