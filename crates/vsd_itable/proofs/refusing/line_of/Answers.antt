use Rattle.std.proofs.Common.{◌≡◌, ℕ, List, Some, get_or, sym, ap, ◌∙◌}
use Rattle.vsd_ast.specs.declared.declarations.Decl.{Decl}
use Rattle.vsd_ast.specs.declared.declarations.Decls.{Decls}
use Rattle.vsd_ast.specs.Lookup.{head_of}
use Rattle.vsd_types.specs.Types.{declaration_of, type_at}
use Rattle.vsd_itable.specs.Refusals.{line_in}
use Rattle.vsd_itable.proofs.BodyLaws.{place-declared}
use Rattle.vsd_itable.proofs.refusing.line_of.Goals as goal

pub returns-in-Some : goal.returns-in-Some
returns-in-Some c =
    let s = c.args.closed.now in
    let T = type_at s.types c.args.t in
    let x = c.index-as_slice-place.result in
    let list : c.as_slice.result.now ≡ s.decls.list = c.as_slice.ensures ∙ ap (λ (d : Decls). d.list) (c.decls.ensures.decls ∙ sym c.requires.together) in
    let at : declaration_of s.decls.list T ≡ Some (get_or s.decls.list c.in-Some.place x) = place-declared s.decls.list (head_of T) c.in-Some.place x (sym c.in-Some.ensures.place) c.in-Some.ensures.within in
    ap (λ (l : List Decl). (get_or l c.in-Some.place x).line) list ∙ sym (ap line_in at)
