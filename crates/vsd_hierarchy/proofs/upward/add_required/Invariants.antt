-- What is there so far is what the interfaces so far give.
use Rattle.std.proofs.Common.{◌≡◌, ◌++◌, take}
use Rattle.vsd_hierarchy.specs.Cycles.{places_of, required}
use Rattle.vsd_hierarchy.proofs.upward.add_required.Given as goal

abbrev pub invariant-loop-interface : goal.invariant-loop-interface
invariant-loop-interface l = l.places ≡ l.fn.places ++ places_of l.scope.list.now (required l.scope.list.now (take l.interface-index l.interfaces))
