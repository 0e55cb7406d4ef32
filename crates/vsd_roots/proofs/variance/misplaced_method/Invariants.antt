-- The least line so far is that of the methods so far.
use Rattle.vsd_least.specs.Least.{AtSome, IsLeast, Until}
use Rattle.vsd_roots.specs.Variance.{MethodMisplaced}
use Rattle.vsd_roots.proofs.variance.misplaced_method.Given as goal

abbrev pub invariant-loop-i : goal.invariant-loop-i
invariant-loop-i l = IsLeast (AtSome l.methods (Until l.i (MethodMisplaced l.h.decls.now l.own))) l.found
