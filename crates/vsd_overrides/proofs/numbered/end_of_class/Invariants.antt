-- The questions before this place are to one class.
use Rattle.vsd_overrides.specs.Known.{IsOneClass}
use Rattle.vsd_overrides.proofs.numbered.end_of_class.Given as goal

abbrev pub invariant-loop-o : goal.invariant-loop-o
invariant-loop-o l = IsOneClass l.asked l.from l.o
