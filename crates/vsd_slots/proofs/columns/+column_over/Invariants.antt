-- The rank of a class's base is lower.
use Rattle.vsd_check.specs.Checked.{depths_of}
use Rattle.vsd_types.specs.Types.{type_at}
use Rattle.vsd_interfaces.specs.Ranks.{rank_of}
use Rattle.vsd_slots.proofs.columns.+column_over.Given as goal

abbrev pub decreases-column_over : goal.decreases-column_over
decreases-column_over l = rank_of l.closed.now.decls.list (depths_of l.checked.now) (type_at l.closed.now.types l.t)
