use Rattle.std.proofs.Common.{rules, arith}
use Rattle.std.proofs.lemmas.Grind.{common_steps}
use Rattle.vsd_lanes.specs.Setting.{setting_of}
use Rattle.vsd_lanes.specs.Productions.{repeated}
use Rattle.vsd_lanes.proofs.repeats.repeated.Goals as goal

pub returns-in_err-body : goal.returns-in_err-body
unfolding repeated
returns-in_err-body g c = λ room h. let x = c.some.ensures (setting_of c.args.ground.now) room h in first_of (search rules, grind (arith, common_steps))
