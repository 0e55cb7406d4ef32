use Rattle.vsd_type_syntax.proofs.Beginning.{written_begins}
use Rattle.vsd_type_syntax.proofs.laws.first_test_accepts.Goals as goal

pub returns : goal.returns
returns c = written_begins
