-- Marked are those that were, and the owners to which an interface before this place leads.
use Rattle.std.proofs.Common.{◌≡◌, ℕ, ◌↔◌, ◌⊎◌, List, Some}
use Rattle.std.specs.List.{slice_get}
use Rattle.vsd_terms.specs.declared.term.Term.{Term}
use Rattle.vsd_ast.specs.declared.declarations.Located.{Located}
use Rattle.vsd_lift.specs.Chain.{envs_of}
use Rattle.vsd_lift.specs.Lift.{lift}
use Rattle.vsd_ways.specs.Found.{SomeBefore}
use Rattle.vsd_ways.specs.Known.{IsMarked}
use Rattle.vsd_ways.specs.Leads.{LeadsTo}
use Rattle.vsd_ways.specs.Ways.{AreWays}
use Rattle.vsd_ways.proofs.having.mark_level.Given as goal

abbrev pub invariant-loop-i : goal.invariant-loop-i
invariant-loop-i l = (owners : List Term) → AreWays l.h.decls.now owners l.table → (o : ℕ) (owner : Term) → slice_get owners o ≡ Some owner → IsMarked l.found o ↔ (IsMarked l.fn.found o ⊎ SomeBefore (λ (i : Located). LeadsTo l.h.decls.now (lift (envs_of l.h.decls.now l.chain) l.level i.term) owner) l.i l.interfaces)
