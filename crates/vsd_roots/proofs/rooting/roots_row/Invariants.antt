-- The methods before this one have their roots.
use Rattle.vsd_roots.specs.Methods.{TabulatesPart}
use Rattle.vsd_roots.specs.Slots.{IsRoot}
use Rattle.vsd_roots.proofs.rooting.roots_row.Given as goal

abbrev pub invariant-loop-method : goal.invariant-loop-method
invariant-loop-method l = TabulatesPart l.h.decls.now (IsRoot l.h.decls.now) l.at l.method l.row
