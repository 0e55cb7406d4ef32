use Rattle.std.proofs.Common.{◌≡◌, ◌<◌, ℕ, List, get_or, Option, Some, None, length, sym, ap, ◌∙◌, subst, arith}
use Rattle.std.specs.List.{slice_get}
use Rattle.std.proofs.lemmas.Option.{slice_get-get_or}
use Rattle.vsd_ast.specs.declared.declarations.Decl.{Decl}
use Rattle.vsd_ast.specs.declared.declarations.Decls.{Decls}
use Rattle.vsd_ast.specs.Lookup.{head_of}
use Rattle.vsd_check.specs.Checked.{decls_of}
use Rattle.vsd_roots.specs.declared.place.Place.{Place}
use Rattle.vsd_types.specs.Types.{place_of_head, type_at}
use Rattle.vsd_slots.specs.Refusals.{method_count}
use Rattle.vsd_itable.specs.Places.{IsLastWith, IsOwnBody}
use Rattle.vsd_itable.proofs.BodyLaws.{counted-stands, own-is}
use Rattle.vsd_itable.proofs.bodies.own_body.Goals as goal

pub last_with_root-requires : goal.last_with_root-requires
last_with_root-requires c =
    let s = c.args.closed.now in
    let found = counted-stands s.decls.list (type_at s.types c.args.t) c.in_ok-decl.decl (sym c.in_ok-decl.ensures.place) c.in_ok-decl.ensures.within in
    let here = subst (λ (d : Decls). slice_get d.list c.in_ok-decl.decl ≡ Some found.0) c.requires.together found.1 in
    (found.0, here, omega (arith, found.2, c.count_methods.ensures.count))

pub returns : goal.returns
returns c =
    let s = c.args.closed.now in
    let root : Place = record { decl = c.args.root.0; method = c.args.root.1 } in
    let last = subst (λ (d : Decls). IsLastWith d.list c.in_ok-decl.decl root c.count_methods.result c.last_with_root.result) (sym c.requires.together) c.last_with_root.ensures in
    let counted = subst (λ n. IsLastWith s.decls.list c.in_ok-decl.decl root n c.last_with_root.result) c.count_methods.ensures.count last in
    own-is s c.args.t c.in_ok-decl.decl root c.requires.class (sym c.in_ok-decl.ensures.place) c.last_with_root.result counted
