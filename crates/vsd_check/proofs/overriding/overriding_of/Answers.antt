use Rattle.std.proofs.Common.{◌≡◌, ◌<◌, List, length, Some, sym, ap, ◌∙◌, subst, arith}
use Rattle.std.specs.List.{slice_get}
use Rattle.std.proofs.lemmas.Option.{slice_get-get_or}
use Rattle.vsd_ast.specs.declared.declarations.Decl.{Decl}
use Rattle.vsd_least.specs.Least.{IsLeast, AtSome}
use Rattle.vsd_least.proofs.LeastLaws.{IsLeast-next, IsLeast-end}
use Rattle.vsd_roots.specs.Bodies.{ShowsAbstract}
use Rattle.vsd_roots.specs.Final.{ShowsFinal}
use Rattle.vsd_roots.specs.Variance.{ShowsMisplaced}
use Rattle.vsd_check.proofs.overriding.overriding_of.Goals as goal

pub loop-place-preserved : goal.loop-place-preserved
loop-place-preserved c =
    let ds = c.args.h.now.decls.now in
    let i = c.loop-place.place in
    let x = c.decl-item.result in
    let within : i < length ds = omega arith in
    let there : slice_get ds i ≡ Some x = slice_get-get_or ds i x within ∙ ap Some (sym c.decl-item.is) in
    let inv = c.loop-place.invariant in
    record {
      misplaced = IsLeast-next ds (λ _. ShowsMisplaced ds) i x c.loop-place.found.misplaced c.misplaced_variance-misplaced_here.result c.earlier-misplaced.result c.earlier-misplaced.ensures there inv.misplaced c.misplaced_variance-misplaced_here.ensures;
      last = IsLeast-next ds (ShowsFinal ds) i x c.loop-place.found.last c.overrides_final-last_here.result c.earlier-last.result c.earlier-last.ensures there inv.last c.overrides_final-last_here.ensures;
      left = IsLeast-next ds (ShowsAbstract ds) i x c.loop-place.found.left c.abstract_in_concrete-left_here.result c.earlier-left.result c.earlier-left.ensures there inv.left c.abstract_in_concrete-left_here.ensures;
    }

pub returns-clause-misplaced : goal.returns-clause-misplaced
returns-clause-misplaced c =
    let ds = c.args.h.now.decls.now in
    subst (λ (xs : List Decl). IsLeast (AtSome xs (λ _. ShowsMisplaced xs)) c.loop-place.found.misplaced) c.requires.scope
    (IsLeast-end ds (λ _. ShowsMisplaced ds) c.loop-place.place c.loop-place.found.misplaced (omega arith) c.loop-place.invariant.misplaced)

pub returns-clause-last : goal.returns-clause-last
returns-clause-last c =
    let ds = c.args.h.now.decls.now in
    subst (λ (xs : List Decl). IsLeast (AtSome xs (ShowsFinal xs)) c.loop-place.found.last) c.requires.scope
    (IsLeast-end ds (ShowsFinal ds) c.loop-place.place c.loop-place.found.last (omega arith) c.loop-place.invariant.last)

pub returns-clause-left : goal.returns-clause-left
returns-clause-left c =
    let ds = c.args.h.now.decls.now in
    subst (λ (xs : List Decl). IsLeast (AtSome xs (ShowsAbstract xs)) c.loop-place.found.left) c.requires.scope
    (IsLeast-end ds (ShowsAbstract ds) c.loop-place.place c.loop-place.found.left (omega arith) c.loop-place.invariant.left)
