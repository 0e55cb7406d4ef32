use Rattle.std.proofs.Common.{◌≡◌, ◌+◌, ◌∙◌, [], ◌∷◌, List, Some, length, sym, ap, subst, arith}
use Rattle.std.specs.List.{slice_get}
use Rattle.std.proofs.lemmas.List.{length-append}
use Rattle.std.proofs.lemmas.Option.{slice_get-get_or, slice_get_within}
use Rattle.vsd_ast.specs.declared.declarations.Decl.{Decl}
use Rattle.vsd_ast.specs.declared.declarations.Decls.{Decls}
use Rattle.vsd_ast.specs.declared.declarations.Method.{Method}
use Rattle.vsd_check.specs.Checked.{decls_of}
use Rattle.vsd_methods.specs.Firsts.{AreNamesOf}
use Rattle.vsd_methods.proofs.NameLaws.{names-push}
use Rattle.vsd_methods.proofs.names.method_names.Goals as goal

pub loop-place-preserved : goal.loop-place-preserved
loop-place-preserved c =
    let ds = c.as_slice-decls.result.now in
    let place = c.loop-place.place in
    let x = c.index-decls-place.result in
    let one = c.in_ok-names_of.field-0 in
    let grown = c.in_ok-push.ensures.ok in
    let stands : slice_get ds place ≡ Some x = slice_get-get_or ds place x c.loop-place-test.true ∙ ap Some (sym c.index-decls-place.is) in
    let mine : AreNamesOf x.methods one = subst (λ (methods : List Method). AreNamesOf methods one) (c.as_slice.ensures ∙ ap (λ (d : Decl). d.methods) (sym c.index-decls-place.is)) c.in_ok-names_of.ensures in
    record {
      count = ap length grown ∙ length-append c.loop-place.found (one ∷ []) ∙ ap (λ n. n + 1) c.loop-place.invariant.count;
      each = names-push ds place x c.loop-place.found c.push.new.self one stands c.loop-place.invariant.count c.loop-place.invariant.each mine grown;
    }

pub returns : goal.returns
returns c =
    let list : c.as_slice-decls.result.now ≡ (decls_of c.args.checked.now).list = c.as_slice-decls.ensures ∙ ap (λ (d : Decls). d.list) c.decls.ensures.decls in
    record {
      count = omega (arith, c.loop-place.invariant.count, c.loop-place.auto.place-end, c.loop-place-test.false, ap length list);
      each = λ k x is.
          let here : slice_get c.as_slice-decls.result.now k ≡ Some x = ap (λ (l : List Decl). slice_get l k) list ∙ is in
          let inside = slice_get_within c.as_slice-decls.result.now k x here in
          c.loop-place.invariant.each k x (omega (arith, inside, c.loop-place-test.false)) here;
    }
