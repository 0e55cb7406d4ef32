-- The arguments before this place are instances, one by one, and the parameters of the others have arguments.
use Rattle.std.proofs.Common.{◌≡◌, ◌≤◌, length, map, take, drop}
use Rattle.vsd_terms.specs.Size.{greatest}
use Rattle.vsd_terms.specs.Substitution.{parameters_of, subst_of}
use Rattle.vsd_overrides.proofs.signatures.are_arguments_at.Given as goal

abbrev pub invariant-loop-i : goal.invariant-loop-i
invariant-loop-i l = record {
  long : length l.wholes ≡ length l.ts;
  before : take l.i l.wholes ≡ take l.i (map (subst_of l.args) l.ts);
  fits : greatest (map parameters_of (drop l.i l.ts)) ≤ length l.args;
}
