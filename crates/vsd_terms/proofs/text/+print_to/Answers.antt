use Rattle.std.proofs.Common.{◌≡◌, ◌≤◌, ℕ, List, [], ◌++◌, OnOk, length, map, append_assoc, subst, sym, ap, ◌∙◌, arith}
use Rattle.std.proofs.lemmas.Option.{get_or_from_slice_get}
use Rattle.std.proofs.lemmas.Bool.{false≢true}
use Rattle.vsd_terms.specs.declared.term.Term.{Term}
use Rattle.vsd_terms.specs.Text.{bracketed, text_of}
use Rattle.vsd_terms.proofs.TextLemmas.{bracketed_end, text_of-Named}
use Rattle.vsd_terms.proofs.text.+print_to.Goals as goal

pub print_arguments-returns : goal.print_arguments-returns
print_arguments-returns m c =
    let names = c.args.names.now in
    let items = c.as_slice-arg-items.result.now in
    let are : items ≡ c.args.args.now = c.as_slice-arg-items.ensures in
    let some : ¬ (items ≡ []) = λ none. false≢true (sym c.if-is_empty.false ∙ c.is_empty.ensures.1 (sym are ∙ none)) in
    let past : length items ≤ c.loop-arg.arg-index = omega arith in
    let ended = bracketed_end names items c.loop-arg.before c.loop-arg.arg-index c.loop-arg.out.items c.args.out.now.items some past c.loop-arg.invariant.text in
    c.in_ok-push-2.ensures.items ∙ ended ∙ ap (λ (ts : List Term). c.args.out.now.items ++ bracketed (map (text_of names) ts)) are

pub print_to-returns-in_ok-extend_from_slice-in-Named : goal.print_to-returns-in_ok-extend_from_slice-in-Named
print_to-returns-in_ok-extend_from_slice-in-Named m c =
    let names = c.args.names.now in
    let old = c.args.out.now.items in
    let name = c.name.result.now in
    let brackets : List ℕ = bracketed (map (text_of names) c.in-Named.args) in
    let here = get_or_from_slice_get names c.in-Named.name name [] c.name.ensures.name in
    let text : text_of names c.args.t.now ≡ name ++ brackets = ap (text_of names) c.in-Named.is ∙ text_of-Named names c.in-Named.name c.in-Named.args ∙ ap (λ (bytes : List ℕ). bytes ++ brackets) here in
    let P : List ℕ → Type 0 = λ bytes. OnOk c.print_arguments.result (c.print_arguments.new.out.items ≡ bytes) in
    let written = ap (λ (bytes : List ℕ). bytes ++ brackets) c.in_ok-extend_from_slice-in-Named.ensures.items in
    subst P (written ∙ append_assoc old name brackets ∙ ap (λ (bytes : List ℕ). old ++ bytes) (sym text)) c.print_arguments.ensures
