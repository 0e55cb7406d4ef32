use Rattle.vsd_trails.proofs.Runs.{one_answer}
use Rattle.vsd_trails.proofs.laws.has_one_answer.Goals as goal

pub returns : goal.returns
returns g c k f = one_answer k f g.T.Trail.program
