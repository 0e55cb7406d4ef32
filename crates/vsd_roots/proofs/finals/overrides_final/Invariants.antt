-- The least line so far is that of the methods so far.
use Rattle.vsd_least.specs.Least.{AtSome, IsLeast, Until}
use Rattle.vsd_roots.specs.Final.{FinalAt}
use Rattle.vsd_roots.proofs.finals.overrides_final.Given as goal

abbrev pub invariant-loop-method : goal.invariant-loop-method
invariant-loop-method l = IsLeast (AtSome l.methods (Until l.method (FinalAt l.h.decls.now l.place))) l.found
