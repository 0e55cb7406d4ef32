use Rattle.vsd_lanes.proofs.FirstReadings.{loads_as_made, unloads_as_made, calls_as_made, casts_as_made}
use Rattle.vsd_lanes.proofs.laws.operations_are_read_as_made.Goals as goal

pub returns-clause-loads : goal.returns-clause-loads
returns-clause-loads c = loads_as_made

pub returns-clause-unloads : goal.returns-clause-unloads
returns-clause-unloads c = unloads_as_made

pub returns-clause-calls : goal.returns-clause-calls
returns-clause-calls c = calls_as_made

pub returns-clause-casts : goal.returns-clause-casts
returns-clause-casts c = casts_as_made
