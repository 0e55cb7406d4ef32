use Rattle.std.proofs.Common.{◌≡◌, ◌-◌}
use Rattle.vsd_grammar.specs.declared.token_class.TokenClass.{TokenClass}
use Rattle.vsd_grammar.specs.declared.turn.Turn.{Turn}
use Rattle.vsd_grammar.specs.Grammar.{run}
use Rattle.vsd_grammar.specs.Productions.{scan}
use Rattle.vsd_grammar.specs.Loops.{Computes₂}
use Rattle.vsd_grammar.proofs.TurnSteps.{scan_turns}
use Rattle.vsd_grammar.proofs.loops.scan.Given as goal

abbrev pub invariant-loop-turn : goal.invariant-loop-turn
invariant-loop-turn g l = (f : TokenClass → _ → Turn _) → Computes₂ (goal.F-post g l.turn) f
    → run _ (scan _ f l.fn.state) l.fn.cursor ≡ scan_turns f (l._turn-end - l._turn) l.state l.cursor
