-- The least lines so far are those of the declarations so far.
use Rattle.vsd_least.specs.Least.{IsLeast, AtSome, Until}
use Rattle.vsd_hierarchy.specs.Kinds.{ShowsBadBase, ShowsBadInterface}
use Rattle.vsd_check.proofs.shape.misfits_of.Given as goal

abbrev pub invariant-loop-decl : goal.invariant-loop-decl
invariant-loop-decl l = record {
  base : IsLeast (AtSome l.scope.list.now (Until l.decl-index (λ _. ShowsBadBase l.scope.list.now))) l.found.base;
  interface : IsLeast (AtSome l.scope.list.now (Until l.decl-index (λ _. ShowsBadInterface l.scope.list.now))) l.found.interface;
}
