use Rattle.std.proofs.Common.{List, get_or, sym, ap, ◌∙◌, subst, inl, inr, arith}
use Rattle.std.specs.List.{slice_get}
use Rattle.std.proofs.lemmas.Option.{slice_get-get_or, slice_get_cases}
use Rattle.vsd_ast.specs.declared.declarations.Method.{Method}
use Rattle.vsd_least.specs.Least.{AtSome, IsLeast}
use Rattle.vsd_least.proofs.LeastLaws.{IsLeast-end, IsLeast-next, IsLeast-shown, IsLeast-start}
use Rattle.vsd_roots.specs.Final.{FinalAt, OverridesFinal}
use Rattle.vsd_roots.proofs.finals.overrides_final.Goals as goal

pub loop-method-init : goal.loop-method-init
loop-method-init c = IsLeast-start c.as_slice-methods.result.now (FinalAt c.args.h.now.decls.now c.args.place)

pub is_above_final-above-requires-clause-is : goal.is_above_final-above-requires-clause-is
is_above_final-above-requires-clause-is c =
    let methods = c.as_slice-methods.result.now in
    let elements = slice_get_cases methods c.loop-method.method in
    elim elements.1 [
      | inl w ↦ (w.0, record { owner = c.args.decl.now; declared = c.requires.there; listed = ap (λ (l : List Method). slice_get l c.loop-method.method) (sym c.as_slice-methods.ensures) ∙ w.2 })
      | inr past ↦ absurd (omega (arith, past.0))
    ]

pub loop-method-preserved : goal.loop-method-preserved
loop-method-preserved c =
    let ds = c.args.h.now.decls.now in
    let methods = c.as_slice-methods.result.now in
    let i = c.loop-method.method in
    let m : Method = get_or methods i c.index-methods-method.result in
    let here = slice_get-get_or methods i c.index-methods-method.result (omega arith) in
    IsLeast-next methods (FinalAt ds c.args.place) i m c.loop-method.found c.shown.result c.earlier-found.result c.earlier-found.ensures here c.loop-method.invariant
    (IsLeast-shown (OverridesFinal ds (record { decl = c.args.place; method = i })) c.is_above_final-above.result m.line c.shown.result c.shown.ensures c.is_above_final-above.ensures)

pub returns : goal.returns
returns c =
    let Q = FinalAt c.args.h.now.decls.now c.args.place in
    let P : List Method → Type 0 = λ l. IsLeast (AtSome l Q) c.loop-method.found in
    subst P c.as_slice-methods.ensures (IsLeast-end c.as_slice-methods.result.now Q c.loop-method.method c.loop-method.found (omega arith) c.loop-method.invariant)
