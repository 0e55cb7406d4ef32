use Rattle.std.proofs.Common.{rules, arith}
use Rattle.std.proofs.lemmas.Grind.{common_steps}
use Rattle.vsd_lanes.specs.Productions.{some}
use Rattle.vsd_lanes.proofs.repeats.some.Goals as goal

pub returns-in_err-first : goal.returns-in_err-first
unfolding some
returns-in_err-first g c = λ e room h. let x = c.one_more.ensures e room h in first_of (search rules, grind (arith, common_steps))

pub returns : goal.returns
unfolding some
returns g c = λ e room h.
    let x = c.in_ok-first.ensures e room h in
    let y = c.more.ensures e room h in
    first_of (search rules, grind (arith, common_steps))
