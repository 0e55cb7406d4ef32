use Rattle.std.proofs.Common.{◌<◌, Some, refl, sym, subst, arith}
use Rattle.vsd_ast.specs.Hierarchy.{IsHierarchy}
use Rattle.vsd_ast.specs.declared.declarations.Decls.{Decls}
use Rattle.vsd_check.specs.Checked.{depths_of}
use Rattle.vsd_types.specs.Types.{type_at}
use Rattle.vsd_interfaces.specs.Ranks.{rank_of}
use Rattle.vsd_slots.proofs.EntryLaws.{base-none, base-some}
use Rattle.vsd_interfaces.proofs.RankLaws.{base-falls}
use Rattle.vsd_itable.specs.Bodies.{declared, top}
use Rattle.vsd_itable.proofs.BodyLaws.{body-further}
use Rattle.vsd_itable.proofs.bodies.+body_at.Goals as goal

pub returns-in-Some : goal.returns-in-Some
returns-in-Some t c = (c.in-Some.ensures.0, declared refl c.in-Some.ensures.1)

pub body_at-requires : goal.body_at-requires
body_at-requires t c =
    let s = c.args.closed.now in
    let depths = depths_of c.args.checked.now in
    let b = c.in-Some-base.base in
    let hierarchy : IsHierarchy s.decls.list depths = subst (λ (d : Decls). IsHierarchy d.list depths) (sym c.requires.together) c.decls-decls.ensures.hierarchy in
    let is = base-some s c.args.t 0 0 c.base.result c.base.ensures.number b c.in-Some-base.is in
    let lower = base-falls s.decls.list depths hierarchy (type_at s.types c.args.t) (type_at s.types b) is in
    let falls : rank_of s.decls.list depths (type_at s.types b) < t = omega (arith, c.decreases, lower) in
    (falls, (c.requires.together, c.in-Some-base.ensures.within))

pub returns-in-Some-base : goal.returns-in-Some-base
returns-in-Some-base t c =
    let s = c.args.closed.now in
    let is = base-some s c.args.t 0 0 c.base.result c.base.ensures.number c.in-Some-base.base c.in-Some-base.is in
    body-further s c.args.t c.in-Some-base.base _ c.in-None.ensures is c.body_at.result c.body_at.ensures

pub returns-in-None-base : goal.returns-in-None-base
returns-in-None-base t c =
    let s = c.args.closed.now in
    top c.in-None.ensures (base-none s c.args.t 0 0 c.base.result c.base.ensures.number c.in-None-base.is)
