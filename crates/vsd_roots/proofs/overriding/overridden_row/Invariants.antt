-- The methods before this one have their entries.
use Rattle.vsd_roots.specs.Methods.{TabulatesPart}
use Rattle.vsd_roots.specs.Slots.{IsOverridden}
use Rattle.vsd_roots.proofs.overriding.overridden_row.Given as goal

abbrev pub invariant-loop-method : goal.invariant-loop-method
invariant-loop-method l = TabulatesPart l.h.decls.now (IsOverridden l.h.decls.now) l.at l.method l.row
