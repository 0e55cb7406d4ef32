-- The least line so far is that of the interfaces so far.
use Rattle.vsd_least.specs.Least.{IsLeast, AtSome, Until}
use Rattle.vsd_hierarchy.specs.Kinds.{IsBadInterface}
use Rattle.vsd_hierarchy.proofs.kinds.bad_interface.Given as goal

abbrev pub invariant-loop-interface : goal.invariant-loop-interface
invariant-loop-interface l = IsLeast (AtSome l.interface-items (Until l.interface-index (IsBadInterface l.scope.list.now))) l.found
