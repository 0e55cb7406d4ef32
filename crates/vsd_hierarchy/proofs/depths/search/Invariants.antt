-- The least line so far is that of the declarations so far.
use Rattle.vsd_least.specs.Least.{IsLeast, AtSome, Until}
use Rattle.vsd_hierarchy.specs.Cycles.{ShowsCycle}
use Rattle.vsd_hierarchy.proofs.depths.search.Given as goal

abbrev pub invariant-loop-place : goal.invariant-loop-place
invariant-loop-place l = IsLeast (AtSome l.scope.list.now (Until l.place (ShowsCycle l.scope.list.now))) l.found
