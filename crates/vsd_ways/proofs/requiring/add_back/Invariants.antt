-- The ways so far are the old ones and those that lead to one of the wanted ways before this place.
use Rattle.std.proofs.Common.{◌≡◌, ℕ, ◌↔◌, ◌⊎◌, List, length, map}
use Rattle.vsd_terms.specs.declared.term.Term.{Term}
use Rattle.vsd_terms.specs.Substitution.{subst_of}
use Rattle.vsd_ways.specs.Found.{SomeBefore}
use Rattle.vsd_ways.specs.Known.{MeetsFor, Serves}
use Rattle.vsd_ways.proofs.requiring.add_back.Given as goal

abbrev pub invariant-loop-i : goal.invariant-loop-i
invariant-loop-i l = (o : ℕ) (args : List Term) → length args ≡ l.parameters → MeetsFor l.ways o args ↔ (MeetsFor l.fn.ways o args ⊎ SomeBefore (Serves o (map (subst_of args) l.patterns)) l.i l.wanted)
