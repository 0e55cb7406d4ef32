use Rattle.std.proofs.Common.{◌≡◌, ◌<◌, ℕ, List, None, get_or, subst, sym, arith, ◌∙◌, ap}
use Rattle.vsd_ast.specs.WellFormed.{AreWellFormed}
use Rattle.vsd_types.specs.Types.{type_at}
use Rattle.vsd_slots.specs.Entries.{found_of}
use Rattle.vsd_slots.specs.Implementation.{IsImplementation}
use Rattle.vsd_slots.specs.Slots.{map_of}
use Rattle.vsd_itable.specs.Filling.{IsImplementing}
use Rattle.vsd_itable.proofs.ImplementLaws.{implementing-none, implementing-some}
use Rattle.vsd_itable.proofs.selecting.implementing.Goals as goal

pub returns-in_err-place : goal.returns-in_err-place
returns-in_err-place c =
    let s = c.args.parts.now.closed.now in
    let well : AreWellFormed s.decls = subst AreWellFormed (sym (c.requires.together.decls)) c.decls-decls.ensures.well_formed in
    let none = implementing-none s well c.count-count.ensures.distinct c.args.t c.args.j c.args.m c.all_interfaces-interfaces.result.now c.all_interfaces-interfaces.ensures.map c.requires.interface c.in_err-place.ensures in
    subst (IsImplementing s c.args.t c.args.j c.args.m) (sym c.from_residual.ensures) none

pub returns : goal.returns
returns c =
    let s = c.args.parts.now.closed.now in
    let well : AreWellFormed s.decls = subst AreWellFormed (sym (c.requires.together.decls)) c.decls-decls.ensures.well_formed in
    let ns = c.all_interfaces-interfaces.result.now in
    let p = c.in_ok-place.place in
    let there = subst (λ (l : List ℕ). IsImplementation s.decls.list (type_at s.types c.args.t) (type_at s.types (get_or l p 0)) c.args.m (found_of s.types c.implementation.result)) (sym c.all_interfaces-interfaces.ensures.value) c.implementation.ensures in
    implementing-some s well c.count-count.ensures.distinct c.args.t c.args.j c.args.m ns c.all_interfaces-interfaces.ensures.map c.requires.interface p c.implementation.result c.in_ok-place.ensures there
