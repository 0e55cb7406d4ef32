use Rattle.std.proofs.Common.{◌≡◌, [], length, arith, rules}
use Rattle.vsd_slots.specs.Entries.{IsStep}
use Rattle.vsd_slots.proofs.ColumnLaws.{each-gains, each-none, each-whole}
use Rattle.vsd_slots.proofs.columns.stepped.Goals as goal

pub loop-m-init : goal.loop-m-init
loop-m-init c = λ before begun. record { list = []; is = begun; holds = each-none (IsStep c.args.closed.now c.args.t c.args.i) c.args.above.now }

pub loop-m-preserved : goal.loop-m-preserved
loop-m-preserved c = λ before begun.
    each-gains (IsStep c.args.closed.now c.args.t c.args.i) c.loop-m.m c.args.above.now before c.loop-m.found c.push.new.self _ c.step-entry.result (c.loop-m.invariant before begun) c.in_ok-push.ensures c.step-entry.ensures (search rules)

pub returns : goal.returns
returns c =
    let all : c.loop-m.m ≡ length c.args.above.now = omega arith in
    each-whole (IsStep c.args.closed.now c.args.t c.args.i) c.loop-m.m c.args.above.now c.args.found.now c.loop-m.found (c.loop-m.invariant c.args.found.now c.in_ok-begin.ensures) all
