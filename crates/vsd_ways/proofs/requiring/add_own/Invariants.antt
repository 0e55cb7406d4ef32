-- The ways so far are the old ones and the arguments of the owners before this place.
use Rattle.std.proofs.Common.{◌≡◌, ℕ, ◌<◌, ◌↔◌, ◌⊎◌, List, Some}
use Rattle.std.specs.List.{slice_get}
use Rattle.vsd_terms.specs.declared.term.Term.{Term}
use Rattle.vsd_terms.specs.declared.term.Term.TheVariants.{Named}
use Rattle.vsd_ways.specs.Known.{owners_in, MeetsFor}
use Rattle.vsd_ways.proofs.requiring.add_own.Given as goal

abbrev pub invariant-loop-o : goal.invariant-loop-o
invariant-loop-o l = (p : ℕ) (args : List Term) → MeetsFor l.ways p args ↔ (MeetsFor l.fn.ways p args ⊎ ((p < l.o) × (slice_get (owners_in l.owners) p ≡ Some (Named l.name args))))
