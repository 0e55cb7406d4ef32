-- The terms before this place are instances, one by one, and the parameters of the others have arguments.
use Rattle.std.proofs.Common.{◌≡◌, ◌≤◌, length, map, take, drop}
use Rattle.vsd_terms.specs.Size.{greatest}
use Rattle.vsd_terms.specs.Substitution.{parameters_of, subst_of}
use Rattle.vsd_terms.proofs.equality_under.+is_instance.Given as goal

abbrev pub invariant-are_instances-loop-i : goal.invariant-are_instances-loop-i
invariant-are_instances-loop-i l = record {
  long : length l.wholes ≡ length l.ts;
  before : take l.i l.wholes ≡ take l.i (map (subst_of l.args) l.ts);
  fits : greatest (map parameters_of (drop l.i l.ts)) ≤ length l.args;
}
