-- What is known is what the arguments have to be for the patterns before this place to meet what is wanted there.
use Rattle.std.proofs.Common.{◌≡◌, ◌≤◌, ◌↔◌, List, length, map, drop}
use Rattle.vsd_terms.specs.declared.term.Term.{Term}
use Rattle.vsd_terms.specs.Size.{greatest}
use Rattle.vsd_terms.specs.Substitution.{parameters_of, subst_of}
use Rattle.vsd_ways.specs.Known.{Meets, MeetsBefore}
use Rattle.vsd_ways.proofs.binding.back.Given as goal

abbrev pub invariant-loop-i : goal.invariant-loop-i
invariant-loop-i l = record {
  long : length l.patterns ≡ length l.wanted;
  size : length l.known.items ≡ l.parameters;
  fits : greatest (map parameters_of (drop l.i l.patterns)) ≤ l.parameters;
  exact : (args : List Term) → length args ≡ l.parameters → Meets l.known.items args ↔ MeetsBefore l.i l.wanted (map (subst_of args) l.patterns);
}
