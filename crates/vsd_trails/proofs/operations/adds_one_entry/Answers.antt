use Rattle.vsd_trails.proofs.Entries.{adds_call, adds_cast, adds_load, adds_unload}
use Rattle.vsd_trails.proofs.operations.adds_one_entry.Goals as goal

pub returns-clause-call : goal.returns-clause-call
returns-clause-call c = adds_call

pub returns-clause-cast : goal.returns-clause-cast
returns-clause-cast c = adds_cast

pub returns-clause-load : goal.returns-clause-load
returns-clause-load c = adds_load

pub returns-clause-unload : goal.returns-clause-unload
returns-clause-unload c = adds_unload
