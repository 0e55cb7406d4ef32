-- The targets of the types so far are there.
use Rattle.vsd_itable.specs.Filling.{AreTargetsTo}
use Rattle.vsd_itable.proofs.filling.fill_targets.Given as goal

abbrev pub invariant-loop-t : goal.invariant-loop-t
invariant-loop-t l = AreTargetsTo l.parts.closed.now l.tokens l.numbers.methods.items l.t l.entries.items
