use Rattle.vsd_trails.proofs.Retirements.{call_retires, unload_retires}
use Rattle.vsd_trails.proofs.operations.retires_rows.Goals as goal

pub returns-clause-call : goal.returns-clause-call
returns-clause-call c = call_retires

pub returns-clause-unload : goal.returns-clause-unload
returns-clause-unload c k h f trail runs = unload_retires k h f trail tt runs
