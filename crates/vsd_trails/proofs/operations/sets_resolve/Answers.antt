use Rattle.vsd_trails.proofs.Limits.{call_sets}
use Rattle.vsd_trails.proofs.operations.sets_resolve.Goals as goal

pub returns : goal.returns
returns c k site h f trail answer lawful runs = call_sets k site lawful.rows.miss h f trail answer runs
