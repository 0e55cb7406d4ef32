-- The rows of the types of less rank, and of those of this rank before the next one.
use Rattle.std.proofs.Common.{ℕ, ◌-◌}
use Rattle.vsd_check.specs.Checked.{depths_of}
use Rattle.vsd_layers.specs.Layers.{IsNextAt, or_end}
use Rattle.vsd_interfaces.specs.Tables.{AreRowsTo}
use Rattle.vsd_interfaces.proofs.tables.fill_rank.Given as goal

abbrev pub invariant-loop-next : goal.invariant-loop-next
invariant-loop-next l = record {
  comes : (from : ℕ) × IsNextAt l.ranks l.rank from l.next;
  filled : AreRowsTo l.closed (depths_of l.checked) l.ranks l.rank (or_end l.next) l.table.reached l.table.maps;
}

abbrev pub decreases-loop-next : goal.decreases-loop-next
decreases-loop-next l = 1024 - or_end l.next
