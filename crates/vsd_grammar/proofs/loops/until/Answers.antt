use Rattle.std.proofs.Common.{rules, suc, ◌+◌, Err, ap, sym, ◌∙◌}
use Rattle.vsd_grammar.specs.Input.{left}
use Rattle.vsd_grammar.specs.Grammar.{turns}
use Rattle.vsd_grammar.specs.Productions.{Reads}
use Rattle.vsd_grammar.proofs.TurnSteps.{ends_at_stop, ends_at_turn, goes_on, ends_without_turn}
use Rattle.vsd_grammar.proofs.loops.until.Goals as goal

pub returns-then-stop : goal.returns-then-stop
returns-then-stop g c = λ f step h k.
    ends_at_stop f step (turns f step (suc (left c.args.cursor.now)) c.args.state c.args.cursor.now) _ _ c.loop-turn.state c.loop-turn.cursor
    (c.loop-turn.invariant f step h k) c.loop-turn-test.true (ap (λ q. f q c.loop-turn.state) (sym c.class.ensures) ∙ sym (h c.class.result c.loop-turn.state c.stop.result c.stop.ensures) ∙ c.if-stop.true)

pub returns-in_err-state : goal.returns-in_err-state
returns-in_err-state g c = λ f step h k.
    let x : Reads (turns f step (suc (left c.args.cursor.now)) c.args.state c.args.cursor.now) (Err c.in_err-state.field-0.0) c.one_turn.new.cursor =
    ends_at_turn f step (turns f step (suc (left c.args.cursor.now)) c.args.state c.args.cursor.now) (c.left-turn-end.result + 1) c.loop-turn._turn c.loop-turn.state c.loop-turn.cursor c.in_err-state.field-0.0 c.one_turn.new.cursor c.one_turn.new.cursor
    (c.loop-turn.invariant f step h k) c.loop-turn-test.true (ap (λ q. f q c.loop-turn.state) (sym c.class.ensures) ∙ sym (h c.class.result c.loop-turn.state c.stop.result c.stop.ensures) ∙ c.if-stop.false) (c.in_err-state.ensures step k) in
    search rules

pub loop-turn-preserved : goal.loop-turn-preserved
loop-turn-preserved g c = λ f step h k.
    goes_on f step (turns f step (suc (left c.args.cursor.now)) c.args.state c.args.cursor.now) _ _ c.loop-turn.state c.loop-turn.cursor c.in_ok-state.state c.one_turn.new.cursor
    (c.loop-turn.invariant f step h k) c.loop-turn-test.true (ap (λ q. f q c.loop-turn.state) (sym c.class.ensures) ∙ sym (h c.class.result c.loop-turn.state c.stop.result c.stop.ensures) ∙ c.if-stop.false) (c.in_ok-state.ensures step k)

pub returns : goal.returns
returns g c = λ f step h k.
    ends_without_turn f step (turns f step (suc (left c.args.cursor.now)) c.args.state c.args.cursor.now) _ _ c.loop-turn.state c.loop-turn.cursor c.refuse.result c.loop-turn.cursor
    (c.loop-turn.invariant f step h k) c.loop-turn-test.false c.refuse.ensures
