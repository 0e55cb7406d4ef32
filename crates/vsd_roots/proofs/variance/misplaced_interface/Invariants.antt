-- The least line so far is that of the interfaces so far.
use Rattle.vsd_least.specs.Least.{AtSome, IsLeast, Until}
use Rattle.vsd_roots.specs.Variance.{InterfaceMisplaced}
use Rattle.vsd_roots.proofs.variance.misplaced_interface.Given as goal

abbrev pub invariant-loop-i : goal.invariant-loop-i
invariant-loop-i l = IsLeast (AtSome l.interfaces (Until l.i (InterfaceMisplaced l.h.decls.now l.own))) l.found
