-- The terms before this place are the others.
use Rattle.std.proofs.Common.{◌≡◌, map, take}
use Rattle.vsd_terms.specs.Substitution.{subst_of}
use Rattle.vsd_methods.proofs.signatures.are_terms_at.Given as goal

abbrev pub invariant-loop-i : goal.invariant-loop-i
invariant-loop-i l = take l.i l.wholes ≡ take l.i (map (subst_of l.args) l.ts)
