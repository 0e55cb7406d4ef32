use Rattle.std.proofs.Common.{rules, arith, false}
use Rattle.std.proofs.lemmas.Grind.{common_steps}
use Rattle.vsd_grammar.specs.Grammar.{run}
use Rattle.vsd_type_syntax.specs.Types.{arguments, type_of}
use Rattle.vsd_type_syntax.proofs.types.arguments.Goals as goal

pub returns-in_err-args : goal.returns-in_err-args
unfolding arguments
returns-in_err-args g c = λ room h.
    let x = c.list.ensures (run _ (type_of (g.R.TypeRules.rules c.args.rules.now) room false)) h in
    first_of (search rules, grind (arith, common_steps))
