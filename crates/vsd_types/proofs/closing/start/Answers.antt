use Rattle.std.proofs.Common.{◌≡◌, List, [], Ok, Result, sym, ap, ◌∙◌}
use Rattle.std.proofs.lemmas.List.Sums.{fold-append}
use Rattle.std.proofs.lemmas.Result.{err_from_is_err_and}
use Rattle.indexmap.specs.IndexSet.{keys}
use Rattle.vsd_terms.specs.declared.term.Term.{Term}
use Rattle.vsd_check.specs.Checked.{decls_of}
use Rattle.vsd_types.specs.declared.error.CloseError.{CloseError}
use Rattle.vsd_types.specs.Closing.{add_to, add_all}
use Rattle.vsd_types.proofs.AddLemmas.{add_to-Err}
use Rattle.vsd_types.proofs.closing.start.Goals as goal

pub returns-in_err-add_each-clause-refused : goal.returns-in_err-add_each-clause-refused
returns-in_err-add_each-clause-refused c =
    let p = err_from_is_err_and c.from_residual.result c.from_residual.ensures.1 in
    let names = (decls_of c.args.checked.now).names in
    let e = c.in_err-add_each.field-0.0 in
    let empty : keys c.new-types.result ≡ [] = c.new-types.ensures.empty in
    let base : Result (List Term) CloseError = Ok [] in
    rw (p.1, p.2) (λ other. fold-append (add_to names) base c.args.first.now c.args.others.now ∙ ap (λ r. add_all names r c.args.others.now) (ap (λ (l : List Term). add_all names (Ok l) c.args.first.now) (sym empty) ∙ c.in_err-add_each.ensures.refused other) ∙ add_to-Err names e c.args.others.now)

pub returns-in_err-add_each-2-clause-refused : goal.returns-in_err-add_each-2-clause-refused
returns-in_err-add_each-2-clause-refused c =
    let p = err_from_is_err_and c.from_residual-in_err-add_each-2.result c.from_residual-in_err-add_each-2.ensures.1 in
    let names = (decls_of c.args.checked.now).names in
    let empty : keys c.new-types.result ≡ [] = c.new-types.ensures.empty in
    let base : Result (List Term) CloseError = Ok [] in
    rw (p.1, p.2) (λ other. fold-append (add_to names) base c.args.first.now c.args.others.now ∙ ap (λ r. add_all names r c.args.others.now) (ap (λ (l : List Term). add_all names (Ok l) c.args.first.now) (sym empty) ∙ c.in_ok-add_each.ensures.ok) ∙ c.in_err-add_each-2.ensures.refused other)
