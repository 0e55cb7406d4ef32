use Rattle.std.proofs.Common.{ℕ, Option, IfSome, subst}
use Rattle.std.specs.Global.{Vec}
use Rattle.vsd_ast.specs.Hierarchy.{AreDepths}
use Rattle.vsd_least.specs.Least.{AtSome}
use Rattle.vsd_least.proofs.LeastLaws.{IsLeast-none}
use Rattle.vsd_hierarchy.specs.Cycles.{ShowsCycle}
use Rattle.vsd_hierarchy.proofs.DepthLemmas.{no_return}
use Rattle.vsd_hierarchy.proofs.depths.first_cycle.Goals as goal

pub returns-in-Some : goal.returns-in-Some
returns-in-Some c =
    let ds = c.args.scope.now.list.now in
    let depths = c.in-Some.field-0.items in
    let are : AreDepths ds depths = subst (λ (o : Option (Vec ℕ)). IfSome o (λ depths. AreDepths ds depths.items)) c.in-Some.is c.requires in
    IsLeast-none (AtSome ds (ShowsCycle ds)) (λ n w. no_return ds depths are w.place w.shows.0)
