-- The targets of the tokens so far are added.
use Rattle.vsd_itable.specs.Filling.{AddsTargets}
use Rattle.vsd_itable.proofs.filling.add_targets.Given as goal

abbrev pub invariant-loop-k : goal.invariant-loop-k
invariant-loop-k l = AddsTargets l.parts.closed.now l.tokens l.numbers.methods.items l.t l.k l.initial.entries.items l.entries.items
