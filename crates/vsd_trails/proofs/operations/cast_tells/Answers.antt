use Rattle.std.proofs.Common.{Ok, Err}
use Rattle.vsd_trails.proofs.CastPaths.{cast_tells}
use Rattle.vsd_trails.proofs.operations.cast_tells.Goals as goal

pub returns-clause-answer : goal.returns-clause-answer
returns-clause-answer c k source target f trail a runs = cast_tells k source target f trail (Ok a) runs

pub returns-clause-unloaded : goal.returns-clause-unloaded
returns-clause-unloaded c k source target f trail u runs = cast_tells k source target f trail (Err u) runs
