use Rattle.vsd_type_syntax.proofs.Sizes.{written_small, rest_small, open_small}
use Rattle.vsd_type_syntax.proofs.laws.types_keep_limits.Goals as goal

pub returns-clause-whole : goal.returns-clause-whole
returns-clause-whole c = written_small

pub returns-clause-rest : goal.returns-clause-rest
returns-clause-rest c = rest_small

pub returns-clause-open : goal.returns-clause-open
returns-clause-open c = open_small
