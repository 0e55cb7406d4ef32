use Rattle.vsd_trails.proofs.Attempts.{walk_tries, lookup_tries}
use Rattle.vsd_trails.proofs.operations.tries_rows.Goals as goal

pub returns-clause-bucket : goal.returns-clause-bucket
returns-clause-bucket c = walk_tries

pub returns-clause-cell : goal.returns-clause-cell
returns-clause-cell c = lookup_tries
