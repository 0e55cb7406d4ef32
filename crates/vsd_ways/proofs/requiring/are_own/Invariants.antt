-- The patterns before this place are the parameters before it.
use Rattle.std.proofs.Common.{◌≡◌, List, length, map, take}
use Rattle.vsd_terms.specs.declared.term.Term.{Term}
use Rattle.vsd_terms.specs.Substitution.{subst_of}
use Rattle.vsd_ways.proofs.requiring.are_own.Given as goal

abbrev pub invariant-loop-i : goal.invariant-loop-i
invariant-loop-i l = record {
  long : length l.patterns ≡ l.parameters;
  own : (args : List Term) → length args ≡ l.parameters → take l.i (map (subst_of args) l.patterns) ≡ take l.i args;
}
