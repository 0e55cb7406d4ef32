-- The least so far is that of the methods so far, and the keys seen are theirs.
use Rattle.std.specs.HashSet.{contains}
use Rattle.vsd_least.specs.Least.{IsLeast, AtSome, Until}
use Rattle.vsd_lawful.specs.Twice.{RepeatsMethod}
use Rattle.vsd_lawful.proofs.MethodKeys.{AreSeen, key_eq}
use Rattle.vsd_lawful.proofs.methods.repeated_method.Given as goal

abbrev pub invariant-loop-method : goal.invariant-loop-method
invariant-loop-method l = record {
  found : IsLeast (AtSome l.methods (Until l.method-index (RepeatsMethod l.methods))) l.found;
  seen : AreSeen l.methods l.method-index (contains key_eq l.seen);
}
