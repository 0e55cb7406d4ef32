use Rattle.std.proofs.Common.{take}
use Rattle.vsd_types.specs.Numbers.{AreNumbers}
use Rattle.vsd_stages.proofs.stages.numbers_of.Given as goal

abbrev pub invariant-loop-term : goal.invariant-loop-term
invariant-loop-term l = AreNumbers l.closed.types l.numbers.items (take l.term-index l.terms)
