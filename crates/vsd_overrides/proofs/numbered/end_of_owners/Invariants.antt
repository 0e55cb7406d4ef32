-- The owners of the questions before this place are asked for together.
use Rattle.vsd_overrides.specs.Known.{AreNearFrom}
use Rattle.vsd_overrides.proofs.numbered.end_of_owners.Given as goal

abbrev pub invariant-loop-o : goal.invariant-loop-o
invariant-loop-o l = AreNearFrom l.asked l.from l.o
