use Rattle.std.proofs.Common.{ℕ, sym, subst}
use Rattle.vsd_rule.specs.declared.key.Key.{Key}
use Rattle.vsd_rule.specs.Lists.{site_token}
use Rattle.vsd_rule.specs.RowFacts.{IsFilled}
use Rattle.vsd_table.specs.Seating.{view_of, key_of}
use Rattle.vsd_rows.proofs.Makes.{answers}
use Rattle.vsd_rows.proofs.Leaving.{goes_on, fill_goes, to_dispatch_goes, free_goes}
use Rattle.vsd_calls.proofs.PartsMade.{installs_row, abandons_row}
use Rattle.vsd_calls.proofs.installing.install_row.Goals as goal

pub to_dispatch-requires-clause-filled : goal.to_dispatch-requires-clause-filled
to_dispatch-requires-clause-filled c =
    let v = view_of c.fill.new.hand.seated in
    record {
      handle = c.args.h;
      target = c.args.target;
      filled = subst (λ (k : Key). IsFilled v c.args.row c.args.h (site_token k c.args.site) c.args.target) (sym c.fill.ensures.seat.key)
          (subst (λ (token : ℕ). IsFilled v c.args.row c.args.h token c.args.target) c.requires.token c.fill.ensures.filled);
    }

pub returns-then-not-to_dispatch-clause-trail : goal.returns-then-not-to_dispatch-clause-trail
returns-then-not-to_dispatch-clause-trail c =
    abandons_row (key_of c.args.table.now) c.args.site c.args.h c.args.target c.args.row c.args.token _ _ _ _ c.requires.token c.fill.ensures.trail (answers c.if-not-to_dispatch.true c.to_dispatch.ensures.trail) c.abandon.ensures.trail

pub returns-then-not-to_dispatch-clause-goes : goal.returns-then-not-to_dispatch-clause-goes
returns-then-not-to_dispatch-clause-goes c =
    let old = view_of c.args.hand.now.seated in
    let one = view_of c.fill.new.hand.seated in
    let two = view_of c.to_dispatch.new.hand.seated in
    let new = view_of c.abandon.new.hand.seated in
    let exchange = c.to_dispatch.ensures.exchange in
    goes_on old two new (goes_on old one two (fill_goes old one c.args.row c.args.h c.args.token c.args.target c.fill.ensures.step.view) (to_dispatch_goes one two c.args.site c.args.row exchange.found exchange.step.view))
    (free_goes two new c.args.row c.abandon.ensures.step.view)

pub returns-else-not-to_dispatch-clause-trail : goal.returns-else-not-to_dispatch-clause-trail
returns-else-not-to_dispatch-clause-trail c =
    installs_row (key_of c.args.table.now) c.args.site c.args.h c.args.target c.args.row c.args.token _ _ _ c.requires.token c.fill.ensures.trail (answers c.if-not-to_dispatch.false c.to_dispatch.ensures.trail)

pub returns-else-not-to_dispatch-clause-goes : goal.returns-else-not-to_dispatch-clause-goes
returns-else-not-to_dispatch-clause-goes c =
    let old = view_of c.args.hand.now.seated in
    let one = view_of c.fill.new.hand.seated in
    let two = view_of c.to_dispatch.new.hand.seated in
    let exchange = c.to_dispatch.ensures.exchange in
    goes_on old one two (fill_goes old one c.args.row c.args.h c.args.token c.args.target c.fill.ensures.step.view) (to_dispatch_goes one two c.args.site c.args.row exchange.found exchange.step.view)
