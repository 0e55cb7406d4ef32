-- The most so far and the most of the arguments to come are the most of the arguments.
use Rattle.std.proofs.Common.{◌≡◌, max, map, drop}
use Rattle.vsd_terms.specs.Size.{greatest}
use Rattle.vsd_terms.specs.Substitution.{parameters_of}
use Rattle.vsd_terms.proofs.substitution.+parameters.Given as goal

abbrev pub invariant-loop-arg : goal.invariant-loop-arg
invariant-loop-arg l = max l.most (greatest (map parameters_of (drop l.arg-index l.arg-items))) ≡ parameters_of l.t
