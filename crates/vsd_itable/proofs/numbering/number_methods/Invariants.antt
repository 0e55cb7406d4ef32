-- The methods of the classes so far are numbered.
use Rattle.vsd_itable.specs.Numbering.{AreNumberedTo}
use Rattle.vsd_itable.proofs.numbering.number_methods.Given as goal

abbrev pub invariant-loop-t : goal.invariant-loop-t
invariant-loop-t l = AreNumberedTo l.closed l.t l.methods.items l.starts.items
