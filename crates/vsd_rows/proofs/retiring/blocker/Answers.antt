use Rattle.std.proofs.Common.{◌≡◌, ◌-◌, ◌<◌, suc, true, false, sym, ap, subst, ◌∙◌, arith}
use Rattle.vsd_rule.specs.declared.sizes.Sizes.{Sizes}
use Rattle.vsd_rule.specs.declared.view.View.{View}
use Rattle.vsd_rule.specs.RowSteps.{is_clear}
use Rattle.vsd_table.specs.Seating.{view_of, key_of}
use Rattle.vsd_rows.specs.Retired.{retired_row}
use Rattle.vsd_rows.proofs.Sweeping.{passed_on, blocked_by, passed_so, swept_leaves, sweeps_on}
use Rattle.vsd_rows.proofs.retiring.blocker.Goals as goal

pub returns-then-not-is_clear-clause-leads : goal.returns-then-not-is_clear-clause-leads
returns-then-not-is_clear-clause-leads c =
    let k = key_of c.args.table.now in
    let caller = c.loop-caller.caller in
    let below : caller < k.sizes.callers = subst (λ (s : Sizes). caller < s.callers) c.sizes-caller-end.ensures.known c.loop-caller-test.true in
    let rest = k.sizes.callers - caller - 1 in
    let blocks : is_clear c.args.oldest.epoch c.epoch_of-word.result ≡ false = sym c.is_clear.ensures ∙ c.if-not-is_clear.true in
    (c.loop-caller.invariant.leads (suc rest) (omega arith) _ _ (blocked_by (retired_row c.args.oldest) rest caller c.epoch_of-word.result _ _ c.epoch_of-word.ensures.step blocks), below, blocks)

pub loop-caller-preserved : goal.loop-caller-preserved
loop-caller-preserved c =
    let x = retired_row c.args.oldest in
    let caller = c.loop-caller.caller in
    let word = c.epoch_of-word.result in
    let v = view_of c.loop-caller.seated in
    let inv = c.loop-caller.invariant in
    let step = c.epoch_of-word.ensures.step in
    let clear : is_clear c.args.oldest.epoch word ≡ true = sym c.is_clear.ensures ∙ c.if-not-is_clear.false in
    record {
      seat = c.epoch_of-word.ensures.seat;
      first = (inv.first.0, ap (λ (w : View). w.rows.limbo) step.view ∙ (swept_leaves v.rows v.rows.limbo caller word ∙ inv.first.1));
      leads = λ rest sum new a makes. inv.leads (suc rest) (omega arith) new a (passed_on x rest caller word _ _ new a step clear makes);
      changes = sweeps_on (view_of c.args.seated.now) v (view_of c.epoch_of-word.new.self) caller word inv.changes step.view;
      passed = λ some. ap (λ (w : View). w.rows.passed) step.view ∙ passed_so v x inv.first.0 caller word inv.first.1 clear inv.passed;
    }
