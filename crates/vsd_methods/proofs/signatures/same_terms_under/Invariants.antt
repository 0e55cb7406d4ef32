-- The terms before this place are equal at their arguments, one by one.
use Rattle.std.proofs.Common.{◌≡◌, map, take}
use Rattle.vsd_terms.specs.Substitution.{subst_of}
use Rattle.vsd_methods.proofs.signatures.same_terms_under.Given as goal

abbrev pub invariant-loop-i : goal.invariant-loop-i
invariant-loop-i l = take l.i (map (subst_of l.x_args) l.xs) ≡ take l.i (map (subst_of l.y_args) l.ys)
