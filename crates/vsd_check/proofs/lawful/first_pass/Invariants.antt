-- The least lines so far are those of the declarations so far.
use Rattle.vsd_least.specs.Least.{IsLeast, AtSome, Until}
use Rattle.vsd_lawful.specs.Twice.{ShowsTwice}
use Rattle.vsd_lawful.specs.Types.{ShowsUnknown, ShowsArity}
use Rattle.vsd_lawful.specs.Variant.{ShowsVariantClass}
use Rattle.vsd_check.proofs.lawful.first_pass.Given as goal

abbrev pub invariant-loop-place : goal.invariant-loop-place
invariant-loop-place l = record {
  twice : IsLeast (AtSome l.scope.list.now (Until l.place (ShowsTwice l.decls.names l.scope.list.now))) l.found.twice;
  unknown : IsLeast (AtSome l.scope.list.now (Until l.place (λ _. ShowsUnknown l.scope.list.now))) l.found.unknown;
  arity : IsLeast (AtSome l.scope.list.now (Until l.place (λ _. ShowsArity l.scope.list.now))) l.found.arity;
  variant : IsLeast (AtSome l.scope.list.now (Until l.place (λ _. ShowsVariantClass))) l.found.variant;
}
