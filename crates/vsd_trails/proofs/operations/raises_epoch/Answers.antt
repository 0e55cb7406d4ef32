use Rattle.vsd_trails.proofs.Retirements.{call_raises, unload_raises}
use Rattle.vsd_trails.proofs.operations.raises_epoch.Goals as goal

pub returns-clause-call : goal.returns-clause-call
returns-clause-call c = call_raises

pub returns-clause-unload : goal.returns-clause-unload
returns-clause-unload c k h f trail runs = unload_raises k h f trail tt runs
