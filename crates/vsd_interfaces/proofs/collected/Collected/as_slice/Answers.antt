use Rattle.std.proofs.Common.{◌≡◌, ℕ, List, [], nat_eq, subst}
use Rattle.indexmap.specs.IndexSet.{insert_all}
use Rattle.vsd_interfaces.proofs.PlaceLaws.{once}
use Rattle.vsd_interfaces.proofs.collected.Collected.as_slice.Goals as goal

pub returns-clause-once : goal.returns-clause-once
returns-clause-once c =
    let whole = once c.self.inside.numbers.items c.self.inside.places.items c.self.invariant in
    subst (λ (ns : List ℕ). insert_all nat_eq [] ns ≡ ns) c.self.view_is whole
