-- The least lines so far are those of the interfaces so far.
use Rattle.vsd_least.specs.Least.{IsLeast, AtSome, Until}
use Rattle.vsd_lawful.specs.Types.{InterfaceNames, IsUnknown, IsMiscounted}
use Rattle.vsd_lawful.proofs.named.of_interfaces.Given as goal

abbrev pub invariant-loop-interface : goal.invariant-loop-interface
invariant-loop-interface l = record {
  unknown : IsLeast (AtSome l.interfaces (Until l.interface-index (InterfaceNames (IsUnknown l.scope.list.now)))) l.lines.unknown;
  arity : IsLeast (AtSome l.interfaces (Until l.interface-index (InterfaceNames (IsMiscounted l.scope.list.now)))) l.lines.arity;
}
