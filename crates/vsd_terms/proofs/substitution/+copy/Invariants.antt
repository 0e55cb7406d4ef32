-- What is made and the arguments to come are the arguments.
use Rattle.std.proofs.Common.{◌≡◌, ◌++◌, drop}
use Rattle.vsd_terms.proofs.substitution.+copy.Given as goal

abbrev pub invariant-loop-arg : goal.invariant-loop-arg
invariant-loop-arg l = l.made ++ drop l.arg-index l.arg-items ≡ l.arg-items
