use Rattle.std.proofs.Common.{List, length, get_or, sym, ◌∙◌, subst}
use Rattle.std.proofs.lemmas.List.Elements.{All-same}
use Rattle.vsd_terms.specs.declared.term.Term.{Term}
use Rattle.vsd_check.specs.Checked.{decls_of}
use Rattle.vsd_types.specs.Types.{IsClosedType, children}
use Rattle.vsd_types.proofs.LawfulLemmas.{children-fit}
use Rattle.vsd_types.proofs.closing.follow.Goals as goal

pub add_each-requires-clause-more : goal.add_each-requires-clause-more
add_each-requires-clause-more c =
    let d = decls_of c.args.checked.now in
    All-same (IsClosedType d.list) c.as_slice-2.result.now (children d.list c.in_ok-t.t) (c.as_slice-2.ensures ∙ c.in_ok-terms.ensures.terms) (children-fit d.list (length d.names) c.requires.well_formed.each c.requires.hierarchy.each c.in_ok-t.t (subst (IsClosedType d.list) (sym c.index-as_slice-place.is ∙ sym c.in_ok-t.ensures) (subst (λ (l : List Term). IsClosedType d.list (get_or l c.args.place c.index-as_slice-place.result)) (sym c.as_slice.ensures.keys) (c.requires.lawful c.args.place c.index-as_slice-place.result c.requires.within))))
