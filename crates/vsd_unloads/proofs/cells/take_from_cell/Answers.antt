use Rattle.std.proofs.Common.{◌≡◌, length, ◌∙◌, sym, ap, arith}
use Rattle.vsd_rule.specs.declared.step.Act.TheVariants.{ToLookup}
use Rattle.vsd_table.specs.Seating.{view_of}
use Rattle.vsd_rows.proofs.Makes.{answers}
use Rattle.vsd_rows.proofs.Leaving.{goes_on, retires_go, same_length}
use Rattle.vsd_unloads.proofs.PartsMade.{takes, takes_not}
use Rattle.vsd_unloads.proofs.Leaving.{to_lookup_goes, to_lookup_limbo}
use Rattle.vsd_unloads.proofs.cells.take_from_cell.Goals as goal

pub retire-requires-clause-room : goal.retire-requires-clause-room
retire-requires-clause-room c =
    let hand = c.args.hand.now in
    let two = c.to_lookup.new.hand in
    let exchange = c.to_lookup.ensures.exchange in
    let limbo = to_lookup_limbo (view_of hand.seated) (view_of two.seated) c.args.site c.args.row exchange.found exchange.step.view in
    let same : length two.limbo.items ≡ length hand.limbo.items =
    same_length two.limbo.items (view_of two.seated).rows.limbo two.same_limbo ∙ (ap length limbo ∙ sym (same_length hand.limbo.items (view_of hand.seated).rows.limbo hand.same_limbo)) in
    omega arith

pub returns-then-to_lookup-clause-trail : goal.returns-then-to_lookup-clause-trail
returns-then-to_lookup-clause-trail c = takes (ToLookup c.args.site c.args.row) c.args.row _ _ _ (answers c.if-to_lookup.true c.to_lookup.ensures.trail) c.retire.ensures.trail

pub returns-then-to_lookup-clause-goes : goal.returns-then-to_lookup-clause-goes
returns-then-to_lookup-clause-goes c =
    let old = view_of c.args.hand.now.seated in
    let two = view_of c.to_lookup.new.hand.seated in
    let new = view_of c.retire.new.hand.seated in
    let exchange = c.to_lookup.ensures.exchange in
    goes_on old two new (to_lookup_goes old two c.args.site c.args.row exchange.found exchange.step.view) (retires_go two new c.args.row c.retire.ensures.limbo.0 c.retire.ensures.limbo.2)

pub returns-else-to_lookup-clause-trail : goal.returns-else-to_lookup-clause-trail
returns-else-to_lookup-clause-trail c = takes_not (ToLookup c.args.site c.args.row) c.args.row _ _ (answers c.if-to_lookup.false c.to_lookup.ensures.trail)

pub returns-else-to_lookup-clause-goes : goal.returns-else-to_lookup-clause-goes
returns-else-to_lookup-clause-goes c =
    let exchange = c.to_lookup.ensures.exchange in
    to_lookup_goes (view_of c.args.hand.now.seated) (view_of c.to_lookup.new.hand.seated) c.args.site c.args.row exchange.found exchange.step.view
