-- What is there so far is what the declarations so far give.
use Rattle.std.proofs.Common.{◌≡◌, map, take}
use Rattle.vsd_ast.specs.Hierarchy.{above}
use Rattle.vsd_hierarchy.specs.Cycles.{places_of}
use Rattle.vsd_hierarchy.proofs.upward.above_graph.Given as goal

abbrev pub invariant-loop-decl : goal.invariant-loop-decl
invariant-loop-decl l = l.graph ≡ map (λ x. places_of l.scope.list.now (above x)) (take l.decl-index l.scope.list.now)
