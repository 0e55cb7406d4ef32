use Rattle.vsd_trails.proofs.Runs.{makes_only}
use Rattle.vsd_trails.proofs.laws.makes_only.Goals as goal

pub returns : goal.returns
returns g c k f = makes_only g.T.Trail.Allows k f g.T.Trail.program
