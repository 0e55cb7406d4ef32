use Rattle.std.proofs.Common.{◌≡◌, List, length, get_or, not, false, sym, ap, ◌∙◌, subst, arith}
use Rattle.std.proofs.lemmas.List.{get_or_default}
use Rattle.std.proofs.lemmas.Option.{slice_get-get_or}
use Rattle.std.proofs.lemmas.List.Elements.{All-get_or}
use Rattle.vsd_ast.specs.WellFormed.{IsMethod as IsWrittenMethod}
use Rattle.vsd_ast.specs.declared.declarations.Method.{Method}
use Rattle.vsd_ast.specs.declared.declarations.Param.{Param}
use Rattle.vsd_least.specs.Least.{AtSome, IsLeast}
use Rattle.vsd_least.proofs.LeastLaws.{IsLeast-end, IsLeast-next, IsLeast-shown, IsLeast-start}
use Rattle.vsd_roots.specs.Variance.{MethodMisplaced, signature_valid}
use Rattle.vsd_roots.proofs.VarianceLemmas.{greatest-named, not-decides}
use Rattle.vsd_roots.proofs.variance.misplaced_method.Goals as goal

pub loop-i-init : goal.loop-i-init
loop-i-init c = IsLeast-start c.as_slice-methods.result.now (MethodMisplaced c.args.h.now.decls.now c.as_slice-own.result.now)

pub is_signature_valid-valid-requires-clause-arguments_named : goal.is_signature_valid-valid-requires-clause-arguments_named
is_signature_valid-valid-requires-clause-arguments_named c =
    let x = c.args.decl.now in
    let names = length c.args.h.now.places.now in
    let all = c.as_slice-methods.result.now in
    let written : IsWrittenMethod names (length x.params) (get_or x.methods c.loop-i.i c.index-methods-i.result) = All-get_or (IsWrittenMethod names (length x.params)) x.methods c.loop-i.i c.index-methods-i.result (omega (arith, ap (λ (l : List Method). length l) c.as_slice-methods.ensures)) c.requires.written.methods in
    let same : get_or all c.loop-i.i c.index-methods-i.result ≡ get_or x.methods c.loop-i.i c.index-methods-i.result = ap (λ (l : List Method). get_or l c.loop-i.i c.index-methods-i.result) c.as_slice-methods.ensures in
    let one = subst (λ (m : Method). IsWrittenMethod names (length x.params) m) (sym same) written in
    greatest-named names (length x.params) (get_or all c.loop-i.i c.index-methods-i.result).signature.arguments one.signature.arguments

pub loop-i-preserved : goal.loop-i-preserved
loop-i-preserved c =
    let ds = c.args.h.now.decls.now in
    let own = c.as_slice-own.result.now in
    let all = c.as_slice-methods.result.now in
    let i = c.loop-i.i in
    let x : Method = get_or all i c.index-methods-i-in-loop-i.result in
    let here = slice_get-get_or all i c.index-methods-i-in-loop-i.result (omega arith) in
    IsLeast-next all (MethodMisplaced ds own) i x c.loop-i.found c.shown.result c.earlier-found.result c.earlier-found.ensures here c.loop-i.invariant
    (IsLeast-shown (signature_valid ds own x.signature ≡ false) (not c.is_signature_valid-valid.result) x.line c.shown.result c.shown.ensures (not-decides c.is_signature_valid-valid.result (signature_valid ds own x.signature) (c.is_signature_valid-valid.ensures ∙ ap (λ (y : Method). signature_valid ds own y.signature) (get_or_default all i c.index-methods-i.result c.index-methods-i-in-loop-i.result (omega arith)))))

pub returns : goal.returns
returns c =
    let ds = c.args.h.now.decls.now in
    let own = c.as_slice-own.result.now in
    let whole = IsLeast-end c.as_slice-methods.result.now (MethodMisplaced ds own) c.loop-i.i c.loop-i.found (omega arith) c.loop-i.invariant in
    let P : List Param → List Method → Type 0 = λ params l. IsLeast (AtSome l (MethodMisplaced ds params)) c.loop-i.found in
    subst (λ (l : List Method). P c.args.decl.now.params l) c.as_slice-methods.ensures (subst (λ (params : List Param). P params c.as_slice-methods.result.now) c.as_slice-own.ensures whole)
