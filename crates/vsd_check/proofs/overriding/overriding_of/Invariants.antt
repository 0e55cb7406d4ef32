-- The least lines so far are those of the declarations so far.
use Rattle.vsd_least.specs.Least.{IsLeast, AtSome, Until}
use Rattle.vsd_roots.specs.Bodies.{ShowsAbstract}
use Rattle.vsd_roots.specs.Final.{ShowsFinal}
use Rattle.vsd_roots.specs.Variance.{ShowsMisplaced}
use Rattle.vsd_check.proofs.overriding.overriding_of.Given as goal

abbrev pub invariant-loop-place : goal.invariant-loop-place
invariant-loop-place l = record {
  misplaced : IsLeast (AtSome l.h.decls.now (Until l.place (λ _. ShowsMisplaced l.h.decls.now))) l.found.misplaced;
  last : IsLeast (AtSome l.h.decls.now (Until l.place (ShowsFinal l.h.decls.now))) l.found.last;
  left : IsLeast (AtSome l.h.decls.now (Until l.place (ShowsAbstract l.h.decls.now))) l.found.left;
}
