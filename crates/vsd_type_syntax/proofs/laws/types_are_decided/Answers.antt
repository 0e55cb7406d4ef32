use Rattle.vsd_type_syntax.proofs.Deciding.{decides_written, decides_written_rest, decides_written_open}
use Rattle.vsd_type_syntax.proofs.laws.types_are_decided.Goals as goal

pub returns-clause-whole : goal.returns-clause-whole
returns-clause-whole c = decides_written

pub returns-clause-rest : goal.returns-clause-rest
returns-clause-rest c = decides_written_rest

pub returns-clause-open : goal.returns-clause-open
returns-clause-open c = decides_written_open
