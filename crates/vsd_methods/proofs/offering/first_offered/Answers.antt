use Rattle.std.proofs.Common.{◌≡◌, ◌∙◌, Some, Contains, sym, ap, subst}
use Rattle.std.specs.List.{slice_get}
use Rattle.vsd_methods.proofs.NameLaws.{begins-at, has-none}
use Rattle.vsd_methods.proofs.offering.first_offered.Goals as goal

pub offered_from-requires-clause-before : goal.offered_from-requires-clause-before
offered_from-requires-clause-before c =
    let there : slice_get c.args.names.now c.from.result ≡ Some c.args.m.now.name = ap (slice_get c.args.names.now) c.from.ensures ∙ c.in-Some.ensures.found ∙ ap Some c.as_slice.ensures in
    begins-at c.args.methods.now c.args.names.now c.requires.names c.args.interface_args.now c.args.args.now c.args.m.now c.from.result there c.find.ensures.names.distinct

pub returns-in-None : goal.returns-in-None
returns-in-None c =
    sym (has-none c.args.methods.now c.args.names.now c.requires.names c.args.interface_args.now c.args.args.now c.args.m.now (λ has.
    let some = c.in-None.ensures.present.1 (subst (Contains c.args.names.now) (sym c.as_slice.ensures) has) in
    absurd cc))
