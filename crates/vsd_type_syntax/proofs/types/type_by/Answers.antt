use Rattle.std.proofs.Common.{rules, arith}
use Rattle.std.proofs.lemmas.Grind.{common_steps}
use Rattle.vsd_type_syntax.specs.Types.{type_by}
use Rattle.vsd_type_syntax.proofs.types.type_by.Goals as goal

pub returns-in_err-term : goal.returns-in_err-term
unfolding type_by
returns-in_err-term g c = λ room h. let x = c.started.ensures room h in first_of (search rules, grind (arith, common_steps))
