use Rattle.vsd_trails.proofs.Runs.{is_bounded}
use Rattle.vsd_trails.proofs.laws.is_bounded.Goals as goal

pub returns : goal.returns
returns g c n k f = is_bounded n k f g.T.Trail.program
