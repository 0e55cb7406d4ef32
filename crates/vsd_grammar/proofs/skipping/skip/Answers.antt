use Rattle.std.proofs.Common.{rules, ◌≡◌, ◌≤◌, suc, ◌+◌, ◌-◌, Err, ap, ◌∙◌, arith}
use Rattle.vsd_grammar.specs.Input.{left}
use Rattle.vsd_grammar.specs.Grammar.{run}
use Rattle.vsd_grammar.specs.Productions.{Reads}
use Rattle.vsd_grammar.specs.Skipping.{skip, skip_turn, passes_at_most}
use Rattle.std.proofs.Common.{subst}
use Rattle.vsd_grammar.proofs.TurnSteps.{scan_begins, scan_turns, scan_stops, scan_refuses, scan_cannot_pass, scan_passes, scan_ends}
use Rattle.vsd_grammar.proofs.skipping.skip.Goals as goal

pub loop-turn-init : goal.loop-turn-init
unfolding skip
loop-turn-init g c = record {
  near = omega arith;
  reads = λ f h.
      let e : suc (left c.args.cursor.now) ≡ c.left-turn-end.result + 1 - 0 = omega (arith, c.left-turn-end.ensures.value) in
      scan_begins (skip_turn f) 0 c.args.cursor.now ∙ ap (λ n. scan_turns (skip_turn f) n 0 c.args.cursor.now) e;
}

pub returns-in-Stop-clause-reads : goal.returns-in-Stop-clause-reads
returns-in-Stop-clause-reads g c = λ f h.
    scan_stops (skip_turn f) (run _ (skip f) c.args.cursor.now) _ _ c.loop-turn.depth c.loop-turn.cursor c.class.result c.skip_turn.result
    (c.loop-turn.invariant.reads f h) c.loop-turn-test.true c.class.ensures (c.skip_turn.ensures.value f h) c.in-Stop.is

pub returns-in-Refuse-clause-reads : goal.returns-in-Refuse-clause-reads
returns-in-Refuse-clause-reads g c = λ f h.
    scan_refuses (skip_turn f) (run _ (skip f) c.args.cursor.now) _ _ c.loop-turn.depth c.loop-turn.cursor c.class.result c.skip_turn.result c.in-Refuse.cause c.refuse.result c.loop-turn.cursor
    (c.loop-turn.invariant.reads f h) c.loop-turn-test.true c.class.ensures (c.skip_turn.ensures.value f h) c.in-Refuse.is c.refuse.ensures

pub returns-in_err-pass-in-Pass-clause-reads : goal.returns-in_err-pass-in-Pass-clause-reads
returns-in_err-pass-in-Pass-clause-reads g c = λ f h.
    let x : Reads (run _ (skip f) c.args.cursor.now) (Err c.in_err-pass-in-Pass.field-0.0) c.pass.new.self =
    scan_cannot_pass (skip_turn f) (run _ (skip f) c.args.cursor.now) (c.left-turn-end.result + 1) c.loop-turn._turn c.loop-turn.depth c.loop-turn.cursor c.class.result c.skip_turn.result c.in-Pass.next c.in_err-pass-in-Pass.field-0.0 c.pass.new.self c.pass.new.self
    (c.loop-turn.invariant.reads f h) c.loop-turn-test.true c.class.ensures (c.skip_turn.ensures.value f h) c.in-Pass.is c.in_err-pass-in-Pass.ensures.reads in
    search rules

pub loop-turn-preserved : goal.loop-turn-preserved
loop-turn-preserved g c =
    let passed : c.in-Pass.next ≤ c.loop-turn.depth + 1 = subst (passes_at_most (c.loop-turn.depth + 1)) c.in-Pass.is c.skip_turn.ensures.near in
    record {
      near = omega (arith, c.loop-turn.invariant.near);
      reads = λ f h.
          scan_passes (skip_turn f) (run _ (skip f) c.args.cursor.now) _ _ c.loop-turn.depth c.loop-turn.cursor c.class.result c.skip_turn.result c.in-Pass.next c.pass.new.self
          (c.loop-turn.invariant.reads f h) c.loop-turn-test.true c.class.ensures (c.skip_turn.ensures.value f h) c.in-Pass.is c.in_ok-pass-in-Pass.ensures.reads;
    }

pub returns-clause-reads : goal.returns-clause-reads
returns-clause-reads g c = λ f h.
    scan_ends (skip_turn f) (run _ (skip f) c.args.cursor.now) _ _ c.loop-turn.depth c.loop-turn.cursor c.refuse-2.result c.loop-turn.cursor
    (c.loop-turn.invariant.reads f h) c.loop-turn-test.false c.refuse-2.ensures
