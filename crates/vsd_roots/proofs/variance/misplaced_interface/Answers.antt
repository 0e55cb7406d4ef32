use Rattle.std.proofs.Common.{◌≡◌, List, get_or, not, false, ap, ◌∙◌, subst, arith}
use Rattle.std.proofs.lemmas.List.{get_or_default}
use Rattle.std.proofs.lemmas.Option.{slice_get-get_or}
use Rattle.vsd_ast.specs.declared.declarations.Located.{Located}
use Rattle.vsd_ast.specs.declared.declarations.Param.{Param}
use Rattle.vsd_least.specs.Least.{AtSome, IsLeast}
use Rattle.vsd_least.proofs.LeastLaws.{IsLeast-end, IsLeast-next, IsLeast-shown, IsLeast-start}
use Rattle.vsd_roots.specs.Variance.{InterfaceMisplaced, is_valid}
use Rattle.vsd_roots.specs.declared.variance.Position.TheVariants.{Positive}
use Rattle.vsd_roots.proofs.VarianceLemmas.{not-decides}
use Rattle.vsd_roots.proofs.variance.misplaced_interface.Goals as goal

pub loop-i-init : goal.loop-i-init
loop-i-init c = IsLeast-start c.as_slice-interfaces.result.now (InterfaceMisplaced c.args.h.now.decls.now c.as_slice-own.result.now)

pub loop-i-preserved : goal.loop-i-preserved
loop-i-preserved c =
    let ds = c.args.h.now.decls.now in
    let own = c.as_slice-own.result.now in
    let all = c.as_slice-interfaces.result.now in
    let i = c.loop-i.i in
    let x : Located = get_or all i c.index-interfaces-i-in-loop-i.result in
    let here = slice_get-get_or all i c.index-interfaces-i-in-loop-i.result (omega arith) in
    IsLeast-next all (InterfaceMisplaced ds own) i x c.loop-i.found c.shown.result c.earlier-found.result c.earlier-found.ensures here c.loop-i.invariant
    (IsLeast-shown (is_valid ds own x.term Positive ≡ false) (not c.may_stand_at-valid.result) x.line c.shown.result c.shown.ensures (not-decides c.may_stand_at-valid.result (is_valid ds own x.term Positive) (c.may_stand_at-valid.ensures ∙ ap (λ (y : Located). is_valid ds own y.term Positive) (get_or_default all i c.index-interfaces-i.result c.index-interfaces-i-in-loop-i.result (omega arith)))))

pub returns : goal.returns
returns c =
    let ds = c.args.h.now.decls.now in
    let own = c.as_slice-own.result.now in
    let whole = IsLeast-end c.as_slice-interfaces.result.now (InterfaceMisplaced ds own) c.loop-i.i c.loop-i.found (omega arith) c.loop-i.invariant in
    let P : List Param → List Located → Type 0 = λ params l. IsLeast (AtSome l (InterfaceMisplaced ds params)) c.loop-i.found in
    subst (λ (l : List Located). P c.args.decl.now.params l) c.as_slice-interfaces.ensures (subst (λ (params : List Param). P params c.as_slice-interfaces.result.now) c.as_slice-own.ensures whole)
