use Rattle.vsd_trails.proofs.Entries.{pin_adds_nothing, unpin_adds_nothing, learn_adds_nothing, sweep_adds_nothing}
use Rattle.vsd_trails.proofs.operations.adds_nothing.Goals as goal

pub returns-clause-pin : goal.returns-clause-pin
returns-clause-pin c = pin_adds_nothing

pub returns-clause-unpin : goal.returns-clause-unpin
returns-clause-unpin c = unpin_adds_nothing

pub returns-clause-learn : goal.returns-clause-learn
returns-clause-learn c = learn_adds_nothing

pub returns-clause-sweep : goal.returns-clause-sweep
returns-clause-sweep c = sweep_adds_nothing
