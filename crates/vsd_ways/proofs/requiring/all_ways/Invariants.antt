-- The interfaces before this place of the order have their ways.
use Rattle.vsd_ways.specs.Known.{owners_in}
use Rattle.vsd_ways.specs.Ways.{AreWaysBefore}
use Rattle.vsd_ways.proofs.requiring.all_ways.Given as goal

abbrev pub invariant-loop-i : goal.invariant-loop-i
invariant-loop-i l = AreWaysBefore l.h.decls.now (owners_in l.owners) l.order l.i l.table
