-- The methods so far are added.
use Rattle.vsd_itable.specs.Numbering.{AddsMethods}
use Rattle.vsd_itable.proofs.numbering.add_methods.Given as goal

abbrev pub invariant-loop-method : goal.invariant-loop-method
invariant-loop-method l = AddsMethods l.class l.method l.initial.methods.items l.methods.items
