use Rattle.std.proofs.Common.{◌≡◌, Some, sym, ◌∙◌, ap}
use Rattle.vsd_rule.specs.declared.key.Key.{Key}
use Rattle.vsd_rule.specs.Lists.{site_token}
use Rattle.vsd_rule.specs.RowSteps.{nothing_known, with_handle}
use Rattle.vsd_table.specs.Seating.{view_of, key_of}
use Rattle.vsd_rows.proofs.Protecting.{seen_protected}
use Rattle.vsd_rows.proofs.Leaving.{goes_on}
use Rattle.vsd_calls.proofs.Stubbing.{stubs_hit, stubs_miss, handle_known, hit_told, handle_goes, target_goes}
use Rattle.vsd_calls.proofs.stubs.stub_row.Goals as goal

pub row_handle-g-requires-clause-protected : goal.row_handle-g-requires-clause-protected
row_handle-g-requires-clause-protected c = seen_protected (view_of c.args.hand.now.seated) c.args.row (Some c.args.site) nothing_known c.requires.named

pub row_target-requires-clause-protected : goal.row_target-requires-clause-protected
row_target-requires-clause-protected c =
    let g = c.row_handle-g.result in
    let one = view_of c.row_handle-g.new.hand.seated in
    seen_protected one c.args.row (Some c.args.site) (with_handle g nothing_known) (handle_known (view_of c.args.hand.now.seated) one c.args.row c.args.site g c.requires.named c.row_handle-g.ensures.step.view)

pub returns-then-is_handle-clause-trail : goal.returns-then-is_handle-clause-trail
returns-then-is_handle-clause-trail c =
    stubs_hit (key_of c.args.table.now) c.args.site c.args.h c.args.row _ _ _ c.row_handle-g.result c.row_target.result c.row_handle-g.ensures.trail (sym c.is_handle.ensures ∙ c.if-is_handle.true) c.row_target.ensures.trail

pub returns-then-is_handle-clause-tells : goal.returns-then-is_handle-clause-tells
returns-then-is_handle-clause-tells c =
    let one = view_of c.row_handle-g.new.hand.seated in
    let key : one.key ≡ key_of c.args.table.now = c.row_handle-g.ensures.seat.key in
    hit_told (view_of c.args.hand.now.seated) one (view_of c.row_target.new.hand.seated) c.args.row c.args.site c.args.token c.row_handle-g.result c.args.h c.row_target.result
    c.requires.named c.row_handle-g.ensures.step.view c.row_target.ensures.step.view
    (c.requires.token ∙ ap (λ (k : Key). site_token k c.args.site) (sym key)) (sym c.is_handle.ensures ∙ c.if-is_handle.true)

pub returns-then-is_handle-clause-goes : goal.returns-then-is_handle-clause-goes
returns-then-is_handle-clause-goes c =
    let old = view_of c.args.hand.now.seated in
    let one = view_of c.row_handle-g.new.hand.seated in
    let new = view_of c.row_target.new.hand.seated in
    goes_on old one new (handle_goes old one c.args.row c.row_handle-g.result c.row_handle-g.ensures.step.view) (target_goes one new c.args.row c.row_target.result c.row_target.ensures.step.view)

pub returns-clause-trail : goal.returns-clause-trail
returns-clause-trail c =
    stubs_miss (key_of c.args.table.now) c.args.site c.args.h c.args.row _ _ _ c.row_handle-g.result c.row_handle-g.ensures.trail (sym c.is_handle.ensures ∙ c.if-is_handle.false) (c.patch.ensures.trail c.args.h)

pub returns-clause-goes : goal.returns-clause-goes
returns-clause-goes c =
    let old = view_of c.args.hand.now.seated in
    let one = view_of c.row_handle-g.new.hand.seated in
    goes_on old one (view_of c.patch.new.hand.seated) (handle_goes old one c.args.row c.row_handle-g.result c.row_handle-g.ensures.step.view) c.patch.ensures.goes
