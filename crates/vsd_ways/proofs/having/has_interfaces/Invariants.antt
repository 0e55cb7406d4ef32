-- Of the owners that are wanted those are marked that a class before this level has.
use Rattle.std.proofs.Common.{◌≡◌, ℕ, ◌<◌, ◌↔◌, List, Some}
use Rattle.std.specs.List.{slice_get}
use Rattle.vsd_terms.specs.declared.term.Term.{Term}
use Rattle.vsd_ways.specs.Known.{IsMarked}
use Rattle.vsd_ways.specs.Leads.{HasInterface}
use Rattle.vsd_ways.specs.Ways.{AreWays}
use Rattle.vsd_ways.proofs.having.has_interfaces.Given as goal

abbrev pub invariant-loop-level : goal.invariant-loop-level
invariant-loop-level l = (owners : List Term) → AreWays l.h.decls.now owners l.table
    → (o : ℕ) (owner : Term) → IsMarked l.wanted o → slice_get owners o ≡ Some owner
    → IsMarked l.found o ↔ ((w : HasInterface l.h.decls.now l.chain owner) × (w.level < l.level))
