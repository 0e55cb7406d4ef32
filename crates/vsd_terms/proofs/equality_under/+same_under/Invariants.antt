-- The terms before this place are equal at their arguments, one by one, and the parameters of the others have arguments.
use Rattle.std.proofs.Common.{◌≡◌, ◌≤◌, length, map, take, drop}
use Rattle.vsd_terms.specs.Size.{greatest}
use Rattle.vsd_terms.specs.Substitution.{parameters_of, subst_of}
use Rattle.vsd_terms.proofs.equality_under.+same_under.Given as goal

abbrev pub invariant-all_same_under-loop-i : goal.invariant-all_same_under-loop-i
invariant-all_same_under-loop-i l = record {
  long : length l.xs ≡ length l.ys;
  before : take l.i (map (subst_of l.x_args) l.xs) ≡ take l.i (map (subst_of l.y_args) l.ys);
  xs_fit : greatest (map parameters_of (drop l.i l.xs)) ≤ length l.x_args;
  ys_fit : greatest (map parameters_of (drop l.i l.ys)) ≤ length l.y_args;
}
