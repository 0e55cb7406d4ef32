use Rattle.vsd_trails.proofs.Purges.{unload_purges_cell, unload_purges_bucket}
use Rattle.vsd_trails.proofs.operations.purges_all.Goals as goal

pub returns-clause-cells : goal.returns-clause-cells
returns-clause-cells c k h f trail site small runs = unload_purges_cell k h f trail tt site small runs

pub returns-clause-buckets : goal.returns-clause-buckets
returns-clause-buckets c k h f trail bucket small runs = unload_purges_bucket k h f trail tt bucket small runs
