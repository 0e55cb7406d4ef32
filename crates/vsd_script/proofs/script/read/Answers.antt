use Rattle.std.proofs.Common.{[]}
use Rattle.vsd_grammar.specs.Place.{start_of}
use Rattle.vsd_script.proofs.script.read.Goals as goal

pub returns-in_default : goal.returns-in_default
returns-in_default c = (start_of c.args.text.now c.args.tokens.now 0 [], tt)
