-- The ways so far are the old ones and the wanted ones before this place.
use Rattle.std.proofs.Common.{ℕ, ◌↔◌, ◌⊎◌, List}
use Rattle.vsd_terms.specs.declared.term.Term.{Term}
use Rattle.vsd_ways.specs.Found.{SomeBefore}
use Rattle.vsd_ways.specs.Known.{MeetsFor, Serves}
use Rattle.vsd_ways.proofs.requiring.add_all.Given as goal

abbrev pub invariant-loop-i : goal.invariant-loop-i
invariant-loop-i l = (o : ℕ) (args : List Term) → MeetsFor l.ways o args ↔ (MeetsFor l.fn.ways o args ⊎ SomeBefore (Serves o args) l.i l.wanted)
