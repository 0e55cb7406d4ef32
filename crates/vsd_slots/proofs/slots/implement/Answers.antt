use Rattle.std.proofs.Common.{◌≡◌, ◌<◌, ℕ, length, subst, arith}
use Rattle.vsd_slots.specs.Refusals.{Passes}
use Rattle.vsd_slots.proofs.slots.implement.Goals as goal

pub returns-then-end-count-clause-refused : goal.returns-then-end-count-clause-refused
returns-then-end-count-clause-refused c =
    let n = length c.args.closed.now.types in
    let listed : c.first_over-end.result < n = omega (arith, c.if-end-count.true, c.count.ensures.count) in
    let over = c.first_over-end.ensures.over listed in
    record {
      listed = listed;
      before = c.in_ok-rows.ensures.passes;
      total = over.0;
      totalled = over.1;
      more = over.2;
    }

pub returns-clause-passes : goal.returns-clause-passes
returns-clause-passes c =
    let all : c.first_over-end.result ≡ length c.args.closed.now.types = omega (arith, c.if-end-count.false, c.count.ensures.count, c.first_over-end.ensures.listed) in
    subst (λ (k : ℕ). Passes c.args.closed.now k) all c.in_ok-rows.ensures.passes
