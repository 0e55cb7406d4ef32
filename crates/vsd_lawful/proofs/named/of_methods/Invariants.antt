-- The least lines so far are those of the methods so far.
use Rattle.vsd_least.specs.Least.{IsLeast, AtSome, Until}
use Rattle.vsd_lawful.specs.Types.{MethodNames, IsUnknown, IsMiscounted}
use Rattle.vsd_lawful.proofs.named.of_methods.Given as goal

abbrev pub invariant-loop-method : goal.invariant-loop-method
invariant-loop-method l = record {
  unknown : IsLeast (AtSome l.methods (Until l.method-index (MethodNames (IsUnknown l.scope.list.now)))) l.lines.unknown;
  arity : IsLeast (AtSome l.methods (Until l.method-index (MethodNames (IsMiscounted l.scope.list.now)))) l.lines.arity;
}
