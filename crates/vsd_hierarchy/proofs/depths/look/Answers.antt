use Rattle.std.proofs.Common.{ℕ, ◌<◌, ◌↔◌, List, IsTrue, length, sym, subst, arith}
use Rattle.std.proofs.lemmas.List.{length-map}
use Rattle.std.proofs.lemmas.Option.{slice_get_within}
use Rattle.vsd_ast.specs.declared.declarations.Decl.{Decl}
use Rattle.vsd_graph.specs.Graph.{IsClosed, ReachesItself}
use Rattle.vsd_least.proofs.LeastLaws.{IsLeast-next, IsLeast-shown, IsLeast-past}
use Rattle.vsd_hierarchy.specs.Cycles.{followed, graph_of, places_of, ShowsCycle}
use Rattle.vsd_hierarchy.proofs.EdgeLemmas.{IsClosed-graph_of}
use Rattle.vsd_hierarchy.proofs.depths.look.Goals as goal

pub returns-then-is_no_later : goal.returns-then-is_no_later
returns-then-is_no_later c =
    let ds = c.args.scope.now.list.now in
    IsLeast-past ds (ShowsCycle ds) c.args.place c.args.decl.now c.args.found c.args.decl.now.line c.requires.there (λ n w. w.1) (c.is_no_later.ensures.0 c.if-is_no_later.true) c.requires.least

pub reaches_itself-requires-clause-within : goal.reaches_itself-requires-clause-within
reaches_itself-requires-clause-within c =
    let ds = c.args.scope.now.list.now in
    subst (λ (g : List (List ℕ)). c.args.place < length g) (sym c.requires.graph) (omega (arith, slice_get_within ds c.args.place c.args.decl.now c.requires.there, length-map ds (λ (x : Decl). places_of ds (followed ds x))))

pub reaches_itself-requires-clause-closed : goal.reaches_itself-requires-clause-closed
reaches_itself-requires-clause-closed c = subst IsClosed (sym c.requires.graph) (IsClosed-graph_of c.args.scope.now.list.now (followed c.args.scope.now.list.now))

pub returns : goal.returns
returns c =
    let ds = c.args.scope.now.list.now in
    let x = c.args.decl.now in
    let place = c.args.place in
    let decides = subst (λ (g : List (List ℕ)). IsTrue c.in_ok-comes_back.comes_back ↔ ReachesItself g place) c.requires.graph c.in_ok-comes_back.ensures in
    IsLeast-next ds (ShowsCycle ds) place x c.args.found c.shown.result c.earlier.result c.earlier.ensures c.requires.there c.requires.least
    (IsLeast-shown (ReachesItself (graph_of ds (followed ds)) place) c.in_ok-comes_back.comes_back x.line c.shown.result c.shown.ensures decides)
