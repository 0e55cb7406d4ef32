-- The methods before this one have their entries.
use Rattle.vsd_roots.specs.Methods.{TabulatesPart}
use Rattle.vsd_roots.specs.Order.{IsShallower}
use Rattle.vsd_roots.proofs.links.shallower_row.Given as goal

abbrev pub invariant-loop-method : goal.invariant-loop-method
invariant-loop-method l = TabulatesPart l.h.decls.now (IsShallower l.h.decls.now l.h.depths.now) l.at l.method l.row
