-- The least lines so far are those of the overrides so far.
use Rattle.vsd_least.specs.Least.{IsLeast, AtSome, Until}
use Rattle.vsd_lawful.specs.Types.{OverrideNames, IsUnknown, IsMiscounted}
use Rattle.vsd_lawful.proofs.named.of_overrides.Given as goal

abbrev pub invariant-loop-given : goal.invariant-loop-given
invariant-loop-given l = record {
  unknown : IsLeast (AtSome l.overrides (Until l.given-index (OverrideNames (IsUnknown l.scope.list.now)))) l.lines.unknown;
  arity : IsLeast (AtSome l.overrides (Until l.given-index (OverrideNames (IsMiscounted l.scope.list.now)))) l.lines.arity;
}
