-- The names of the methods before this one are there.
use Rattle.vsd_methods.specs.Firsts.{AreNamesTo}
use Rattle.vsd_methods.proofs.names.names_of.Given as goal

abbrev pub invariant-loop-i : goal.invariant-loop-i
invariant-loop-i l = AreNamesTo l.methods l.i l.names
