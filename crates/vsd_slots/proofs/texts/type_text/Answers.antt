use Rattle.std.proofs.Common.{◌≡◌, ◌≤◌, IfOk, List, ℕ, length, sym, ap, ◌∙◌, subst}
use Rattle.vsd_terms.specs.declared.term.Term.{Term}
use Rattle.vsd_terms.specs.Text.{names_of, text_of}
use Rattle.vsd_ast.specs.declared.declarations.Decls.{Decls}
use Rattle.vsd_ast.specs.WellFormed.{AreWellFormed}
use Rattle.vsd_types.specs.Types.{object, type_at}
use Rattle.vsd_types.proofs.LawfulLemmas.{lawful-named}
use Rattle.vsd_slots.proofs.texts.type_text.Goals as goal

pub print-requires-clause-named : goal.print-requires-clause-named
print-requires-clause-named c =
    let s = c.args.closed.now in
    let T = type_at s.types c.args.t in
    let d = c.decls.result.now in
    let same : s.decls ≡ d = c.requires.together ∙ sym c.decls.ensures.decls in
    let lawful = (c.count-count.ensures.lawful c.args.t object c.requires.listed).lawful in
    let well : AreWellFormed s.decls = subst AreWellFormed (sym c.requires.together) c.decls.ensures.well_formed in
    let at : names_of T ≤ length s.decls.names = lawful-named s.decls.list (length s.decls.names) well.each T lawful in
    subst (λ (u : Term). names_of u ≤ length d.names) (sym c.term.ensures) (subst (λ (x : Decls). names_of T ≤ length x.names) same at)

pub returns : goal.returns
returns c =
    let s = c.args.closed.now in
    let T = type_at s.types c.args.t in
    let d = c.decls.result.now in
    let same : d ≡ s.decls = c.decls.ensures.decls ∙ sym c.requires.together in
    let text : text_of d.names c.term.result.now ≡ text_of s.decls.names T = ap (λ (x : Decls). text_of x.names c.term.result.now) same ∙ ap (text_of s.decls.names) c.term.ensures in
    subst (λ (w : List ℕ). IfOk c.print.result (λ text. text.items ≡ w)) text c.print.ensures
