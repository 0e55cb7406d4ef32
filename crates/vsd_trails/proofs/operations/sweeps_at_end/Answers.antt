use Rattle.vsd_trails.proofs.Endings.{call_sweeps, unload_sweeps}
use Rattle.vsd_trails.proofs.operations.sweeps_at_end.Goals as goal

pub returns-clause-call : goal.returns-clause-call
returns-clause-call c = call_sweeps

pub returns-clause-unload : goal.returns-clause-unload
returns-clause-unload c k h f trail runs = unload_sweeps k h f trail tt runs
