use Rattle.std.proofs.Common.{◌≡◌, List, ℕ, ◌++◌, get_or, Some, sym, ap, ◌∙◌}
use Rattle.std.specs.List.{slice_get}
use Rattle.std.proofs.lemmas.Option.{slice_get-get_or}
use Rattle.vsd_ast.specs.declared.declarations.Method.{Method}
use Rattle.vsd_types.specs.Types.{declaration_of, type_at}
use Rattle.vsd_methods.specs.Methods.{methods_in}
use Rattle.vsd_slots.specs.Texts.{mark, name_at, namesakes}
use Rattle.vsd_slots.proofs.texts.name_text.Goals as goal

pub returns : goal.returns
returns c =
    let s = c.args.closed.now in
    let T = type_at s.types c.args.t in
    let methods = methods_in (declaration_of s.decls.list T) in
    let place = c.args.method in
    let m = c.index-methods-method.result in
    let list : c.as_slice-methods.result.now ≡ methods = c.as_slice-methods.ensures ∙ sym (ap methods_in c.in-Some.ensures.declaration) in
    let found : slice_get methods place ≡ Some m = slice_get-get_or methods place m c.requires.method ∙ ap Some (sym (c.index-methods-method.is ∙ ap (λ (l : List Method). get_or l place m) list)) in
    let name : c.as_slice-name.result.now ≡ m.name = c.as_slice-name.ensures ∙ ap (λ (p : Method). p.name) (sym c.index-methods-method.is) in
    let count : c.namesakes.result ≡ namesakes methods m.name place = c.namesakes.ensures.count ∙ ap (λ (l : List Method). namesakes l c.as_slice-name.result.now place) list ∙ ap (λ (n : List ℕ). namesakes methods n place) name in
    let end : c.as_slice.result.now ≡ mark (namesakes methods m.name place) = c.as_slice.ensures.value ∙ c.in_ok-mark.ensures ∙ ap mark count in
    c.in_ok-extend_from_slice.ensures.items
    ∙ ap (λ (l : List ℕ). l ++ c.as_slice.result.now) (c.in_ok-text.ensures.items ∙ name)
    ∙ ap (λ (l : List ℕ). m.name ++ l) end
    ∙ ap (λ o. name_at methods place o) (sym found)
