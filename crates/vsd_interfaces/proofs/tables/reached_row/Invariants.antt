-- The interfaces so far, each with its row.
use Rattle.std.proofs.Common.{◌≡◌, [], nat_eq, take}
use Rattle.std.specs.List.{flat_map}
use Rattle.indexmap.specs.IndexSet.{insert_all}
use Rattle.vsd_interfaces.specs.Tables.{with_row}
use Rattle.vsd_interfaces.proofs.tables.reached_row.Given as goal

abbrev pub invariant-loop-interface : goal.invariant-loop-interface
invariant-loop-interface l = l.set ≡ insert_all nat_eq [] (flat_map (with_row l.rows) (take l.interface-index l.named))
