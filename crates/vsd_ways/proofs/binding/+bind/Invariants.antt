-- What is known is what the arguments have to be for the patterns before this place to be the wholes there.
use Rattle.std.proofs.Common.{◌≡◌, ◌≤◌, ◌↔◌, List, length, map, take, drop}
use Rattle.vsd_terms.specs.declared.term.Term.{Term}
use Rattle.vsd_terms.specs.Size.{greatest}
use Rattle.vsd_terms.specs.Substitution.{parameters_of, subst_of}
use Rattle.vsd_ways.specs.Known.{Meets}
use Rattle.vsd_ways.proofs.binding.+bind.Given as goal

abbrev pub invariant-bind_all-loop-i : goal.invariant-bind_all-loop-i
invariant-bind_all-loop-i l = record {
  long : length l.patterns ≡ length l.wholes;
  size : length l.known.items ≡ length l.fn.known.items;
  fits : greatest (map parameters_of (drop l.i l.patterns)) ≤ length l.known.items;
  exact : (args : List Term) → Meets l.known.items args ↔ (Meets l.fn.known.items args × (take l.i (map (subst_of args) l.patterns) ≡ take l.i l.wholes));
}
