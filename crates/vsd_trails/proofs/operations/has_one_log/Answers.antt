use Rattle.vsd_trails.specs.Operations.{Event, begun}
use Rattle.vsd_trails.proofs.Logs.{one_log}
use Rattle.vsd_trails.proofs.operations.has_one_log.Goals as goal

pub returns : goal.returns
returns c k = one_log Event k (begun k)
