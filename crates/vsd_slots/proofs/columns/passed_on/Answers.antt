use Rattle.std.proofs.Common.{◌≡◌, [], None, length, arith, rules}
use Rattle.vsd_slots.specs.Entries.{IsCombined}
use Rattle.vsd_slots.proofs.ColumnLaws.{each-gains, each-none, each-whole}
use Rattle.vsd_slots.proofs.columns.passed_on.Goals as goal

pub loop-m-init : goal.loop-m-init
loop-m-init c = λ before begun. record { list = []; is = begun; holds = each-none (λ m. IsCombined None None c.args.has) c.args.above.now }

pub loop-m-preserved : goal.loop-m-preserved
loop-m-preserved c = λ before begun.
    each-gains (λ m. IsCombined None None c.args.has) c.loop-m.m c.args.above.now before c.loop-m.found c.push.new.self _ c.combine.result (c.loop-m.invariant before begun) c.in_ok-push.ensures c.combine.ensures (search rules)

pub returns : goal.returns
returns c =
    let all : c.loop-m.m ≡ length c.args.above.now = omega arith in
    each-whole (λ m. IsCombined None None c.args.has) c.loop-m.m c.args.above.now c.args.found.now c.loop-m.found (c.loop-m.invariant c.args.found.now c.in_ok-begin.ensures) all
