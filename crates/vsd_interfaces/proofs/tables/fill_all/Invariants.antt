-- The rows of the types of less rank.
use Rattle.vsd_check.specs.Checked.{depths_of}
use Rattle.vsd_interfaces.specs.Tables.{AreRowsTo}
use Rattle.vsd_interfaces.proofs.tables.fill_all.Given as goal

abbrev pub invariant-loop-rank : goal.invariant-loop-rank
invariant-loop-rank l = AreRowsTo l.closed (depths_of l.checked) l.ranks l.rank 0 l.table.reached l.table.maps
