-- The ways so far are the old ones and those of the interfaces before this place.
use Rattle.std.proofs.Common.{◌≡◌, ℕ, ◌↔◌, ◌⊎◌, All, List, length, Some}
use Rattle.std.specs.List.{slice_get}
use Rattle.vsd_terms.specs.declared.term.Term.{Term}
use Rattle.vsd_terms.specs.Substitution.{subst_of}
use Rattle.vsd_ast.specs.declared.declarations.Located.{Located}
use Rattle.vsd_ways.specs.Found.{SomeBefore}
use Rattle.vsd_ways.specs.Known.{MeetsFor}
use Rattle.vsd_ways.specs.Leads.{LeadsTo}
use Rattle.vsd_ways.specs.Ways.{IsReady}
use Rattle.vsd_ways.proofs.requiring.add_required.Given as goal

abbrev pub invariant-loop-i : goal.invariant-loop-i
invariant-loop-i l = (owners : List Term) → All (λ (i : Located). IsReady l.h.decls.now owners l.table i.term) l.interfaces → (o : ℕ) (owner : Term) → slice_get owners o ≡ Some owner → (args : List Term) → length args ≡ length l.decl.params → MeetsFor l.ways o args ↔ (MeetsFor l.fn.ways o args ⊎ SomeBefore (λ (i : Located). LeadsTo l.h.decls.now (subst_of args i.term) owner) l.i l.interfaces)
