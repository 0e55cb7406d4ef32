-- What is there so far is what the declarations so far give.
use Rattle.std.proofs.Common.{◌≡◌, map, take}
use Rattle.vsd_hierarchy.specs.Cycles.{followed, places_of}
use Rattle.vsd_hierarchy.proofs.upward.followed_graph.Given as goal

abbrev pub invariant-loop-decl : goal.invariant-loop-decl
invariant-loop-decl l = l.graph ≡ map (λ x. places_of l.scope.list.now (followed l.scope.list.now x)) (take l.decl-index l.scope.list.now)
