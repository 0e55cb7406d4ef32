use Rattle.std.proofs.Common.{◌≡◌, ℕ, List, Option, Some, None, Result, Ok, Err, IfOk, MatchOption, sym, ◌∙◌, subst}
use Rattle.std.specs.Global.{Vec}
use Rattle.vsd_ast.specs.Hierarchy.{above, AreDepths}
use Rattle.vsd_ast.specs.declared.declarations.Decl.{Decl}
use Rattle.vsd_graph.specs.Graph.{IsClosed, IsCyclic, AreLevels}
use Rattle.vsd_hierarchy.specs.Cycles.{graph_of}
use Rattle.vsd_hierarchy.proofs.EdgeLemmas.{IsClosed-graph_of}
use Rattle.vsd_hierarchy.proofs.DepthLemmas.{AreDepths-levels}
use Rattle.vsd_hierarchy.proofs.depths.depths_of.Goals as goal

pub place_levels-requires-clause-closed : goal.place_levels-requires-clause-closed
place_levels-requires-clause-closed c =
    subst IsClosed (sym (c.as_slice.ensures ∙ c.in_ok-graph.ensures)) (IsClosed-graph_of c.args.scope.now.list.now above)

found_depths : {E : Type 0} (ds : List Decl) (g : List (List ℕ)) (r : Result (Option (Vec ℕ)) E) → g ≡ graph_of ds above → IfOk r (λ found. MatchOption found (IsCyclic g) (λ levels. AreLevels g levels.items)) → IfOk r (λ found. MatchOption found (IsCyclic (graph_of ds above)) (λ depths. AreDepths ds depths.items))
found_depths ds g (Err e) is h = tt
found_depths ds g (Ok None) is h = subst IsCyclic is h
found_depths ds g (Ok (Some levels)) is h = AreDepths-levels ds levels.items (subst (λ (x : List (List ℕ)). AreLevels x levels.items) is h)

pub returns : goal.returns
returns c = found_depths c.args.scope.now.list.now c.as_slice.result.now c.place_levels.result (c.as_slice.ensures ∙ c.in_ok-graph.ensures) c.place_levels.ensures
