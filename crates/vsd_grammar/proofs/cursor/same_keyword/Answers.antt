use Rattle.std.proofs.Common.{rules}
use Rattle.vsd_grammar.specs.Input.{same_keyword}
use Rattle.vsd_grammar.proofs.cursor.same_keyword.Goals as goal

pub returns : goal.returns
unfolding same_keyword
returns c = search rules
