use Rattle.std.proofs.Common.{◌≡◌, ◌<◌, ℕ, List, Option, Some, None, get_or, subst, sym}
use Rattle.vsd_ast.specs.declared.declarations.Decls.{Decls}
use Rattle.vsd_ast.specs.declared.declarations.Method.{Method}
use Rattle.vsd_roots.specs.Slots.{IsRoot}
use Rattle.vsd_roots.specs.declared.place.Place.{Place}
use Rattle.vsd_roots.specs.Methods.{IsMethod}
use Rattle.vsd_types.specs.Types.{type_at}
use Rattle.vsd_itable.specs.Bodies.{HasRoot}
use Rattle.vsd_itable.proofs.BodyLaws.{method-at}
use Rattle.vsd_itable.proofs.ImplementLaws.{body-some}
use Rattle.vsd_itable.proofs.selecting.body_of.Goals as goal

pub root-root-requires : goal.root-root-requires
root-root-requires c =
    let s = c.args.parts.now.closed.now in
    let found = method-at s.decls.list (type_at s.types c.args.method.class) c.in_ok-decl.decl c.args.method.method (sym c.in_ok-decl.ensures.place) c.in_ok-decl.ensures.within c.requires.upward.listed.method in
    (found.0, subst (λ (d : Decls). IsMethod d.list (record { decl = c.in_ok-decl.decl; method = c.args.method.method }) found.0) c.requires.together.decls found.1)

pub returns : goal.returns
returns c =
    let s = c.args.parts.now.closed.now in
    let root : Place = record { decl = c.root-root.result.0; method = c.root-root.result.1 } in
    let at : Place = record { decl = c.in_ok-decl.decl; method = c.args.method.method } in
    let rooted : HasRoot s.decls.list root (type_at s.types c.args.method.class) c.args.method.method = record {
      decl = c.in_ok-decl.decl;
      declared = sym c.in_ok-decl.ensures.place;
      rooted = subst (λ (d : Decls). IsRoot d.list at root) (sym c.requires.together.decls) c.root-root.ensures.root;
    } in
    record { body = body-some s c.args.t c.args.method c.requires.upward root rooted c.body_at.result c.body_at.ensures }
