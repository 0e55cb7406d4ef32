use Rattle.vsd_trails.proofs.Runs.{ends_once}
use Rattle.vsd_trails.proofs.laws.ends_once.Goals as goal

pub returns : goal.returns
returns g c k f = ends_once k f g.T.Trail.program
