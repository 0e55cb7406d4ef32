use Rattle.std.proofs.Common.{All, subst}
use Rattle.indexmap.specs.IndexSet.{keys}
use Rattle.vsd_types.specs.ClosedList.{IsClosedUnder}
use Rattle.vsd_types.specs.TypeList.{TypeList}
use Rattle.vsd_types.specs.Types.{IsClosedType}
use Rattle.vsd_types.proofs.EntryLemmas.{entries-closed, entries-lawful}
use Rattle.vsd_types.proofs.closed.Closed.count.Goals as goal

pub returns-clause-closed : goal.returns-clause-closed
returns-clause-closed c =
    subst (λ (v : TypeList). IsClosedUnder v.decls.list v.types) c.self.view_is (entries-closed c.self.inside.origin.decls.list (keys c.self.inside.types) c.self.inside.entries c.self.invariant)

pub returns-clause-lawful : goal.returns-clause-lawful
returns-clause-lawful c =
    subst (λ (v : TypeList). All (IsClosedType v.decls.list) v.types) c.self.view_is (entries-lawful c.self.inside.origin.decls.list (keys c.self.inside.types) c.self.inside.entries c.self.invariant)
