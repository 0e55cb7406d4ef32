use Rattle.std.proofs.Common.{◌≡◌, ◌-◌, ◌≤◌, Bool}
use Rattle.vsd_grammar.specs.declared.token_class.TokenClass.{TokenClass}
use Rattle.vsd_grammar.specs.Grammar.{run}
use Rattle.vsd_grammar.specs.Loops.{Computes}
use Rattle.vsd_grammar.specs.Skipping.{skip, skip_turn}
use Rattle.vsd_grammar.proofs.TurnSteps.{scan_turns}
use Rattle.vsd_grammar.proofs.skipping.skip.Given as goal

abbrev pub invariant-loop-turn : goal.invariant-loop-turn
invariant-loop-turn g l = record {
  near : l.depth ≤ l._turn;
  reads : (f : TokenClass → Bool) → Computes (goal.W-post g l.stops) f → run _ (skip f) l.fn.cursor ≡ scan_turns (skip_turn f) (l._turn-end - l._turn) l.depth l.cursor;
}
