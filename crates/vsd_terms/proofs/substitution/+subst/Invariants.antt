-- What is made and what the arguments to come give is what all give, and their parameters have arguments.
use Rattle.std.proofs.Common.{◌≡◌, ◌≤◌, ◌++◌, length, map, drop}
use Rattle.vsd_terms.specs.Size.{greatest}
use Rattle.vsd_terms.specs.Substitution.{parameters_of, subst_of}
use Rattle.vsd_terms.proofs.substitution.+subst.Given as goal

abbrev pub invariant-loop-arg : goal.invariant-loop-arg
invariant-loop-arg l = record {
  made : l.made ++ map (subst_of l.args) (drop l.arg-index l.arg-items) ≡ map (subst_of l.args) l.arg-items;
  fits : greatest (map parameters_of (drop l.arg-index l.arg-items)) ≤ length l.args;
}
