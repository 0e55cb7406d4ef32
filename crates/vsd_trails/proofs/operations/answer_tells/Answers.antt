use Rattle.std.proofs.Common.{Ok, Err}
use Rattle.vsd_trails.proofs.CallPaths.{answer_tells}
use Rattle.vsd_trails.proofs.operations.answer_tells.Goals as goal

pub returns-clause-path : goal.returns-clause-path
returns-clause-path c k site h f trail a runs = answer_tells k site h f trail (Ok a) runs

pub returns-clause-unloaded : goal.returns-clause-unloaded
returns-clause-unloaded c k site h f trail u runs = answer_tells k site h f trail (Err u) runs
