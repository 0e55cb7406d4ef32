use Rattle.std.proofs.Common.{◌≡◌, List, get_or, sym, ap, ◌∙◌, subst}
use Rattle.vsd_ast.specs.declared.declarations.Decl.{Decl}
use Rattle.vsd_ast.specs.declared.declarations.Decls.{Decls}
use Rattle.vsd_ast.specs.WellFormed.{AreWellFormed}
use Rattle.vsd_types.specs.Types.{object, type_at}
use Rattle.vsd_methods.proofs.GivenLaws.{declared-is}
use Rattle.vsd_methods.proofs.declared.declaration_at.Goals as goal

pub returns : goal.returns
returns c =
    let s = c.args.closed.now in
    let x = c.index-as_slice-place.result in
    let place = c.in_ok-place.place in
    let list : c.as_slice.result.now ≡ s.decls.list = c.as_slice.ensures ∙ ap (λ (d : Decls). d.list) (c.decls.ensures.decls ∙ sym c.requires.together) in
    let read : x ≡ get_or s.decls.list place x = c.index-as_slice-place.is ∙ ap (λ (l : List Decl). get_or l place x) list in
    let well : AreWellFormed s.decls = subst AreWellFormed (sym c.requires.together) c.decls.ensures.well_formed in
    declared-is s (type_at s.types c.args.t) c.in-Named.name c.in-Named.args x place (sym c.term.ensures ∙ c.in-Named.is) c.in_ok-place.ensures.place c.in_ok-place.ensures.within read (c.count-count.ensures.lawful c.args.t object c.requires.within) well.each
