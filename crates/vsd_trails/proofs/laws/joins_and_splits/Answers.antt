use Rattle.vsd_trails.proofs.Runs.{joins, splits}
use Rattle.vsd_trails.proofs.laws.joins_and_splits.Goals as goal

pub returns-clause-joins : goal.returns-clause-joins
returns-clause-joins g c k f = joins k f g.T.Trail.program g.T.Trail.next

pub returns-clause-splits : goal.returns-clause-splits
returns-clause-splits g c k f = splits k f g.T.Trail.program g.T.Trail.next
