use Rattle.std.proofs.Common.{◌≡◌, length, ◌∙◌, ap, arith}
use Rattle.vsd_words.specs.declared.handle.Handle.{Handle}
use Rattle.vsd_table.specs.Seating.{view_of, key_of}
use Rattle.vsd_rows.proofs.Makes.{answers}
use Rattle.vsd_rows.proofs.Leaving.{goes_on, to_resolve_goes, retires_go, to_resolve_limbo, same_length}
use Rattle.vsd_calls.proofs.PartsMade.{unlinks, unlinks_not}
use Rattle.vsd_calls.proofs.patching.unlink.Goals as goal

-- the program does not look at the handle
abbrev any : Handle
any = record { row = 0; generation = 0 }

pub retire-requires-clause-room : goal.retire-requires-clause-room
retire-requires-clause-room c =
    let old = view_of c.args.hand.now.seated in
    let two = c.to_resolve.new.hand in
    let exchange = c.to_resolve.ensures.exchange in
    let limbo = to_resolve_limbo old (view_of two.seated) c.args.site c.args.row exchange.found exchange.step.view in
    let same : length two.limbo.items ≡ length old.rows.limbo = same_length two.limbo.items (view_of two.seated).rows.limbo two.same_limbo ∙ ap length limbo in
    omega arith

pub returns-then-to_resolve-clause-trail : goal.returns-then-to_resolve-clause-trail
returns-then-to_resolve-clause-trail c = unlinks (key_of c.args.table.now) c.args.site any c.args.row _ _ _ (answers c.if-to_resolve.true c.to_resolve.ensures.trail) c.retire.ensures.trail

pub returns-then-to_resolve-clause-goes : goal.returns-then-to_resolve-clause-goes
returns-then-to_resolve-clause-goes c =
    let old = view_of c.args.hand.now.seated in
    let two = view_of c.to_resolve.new.hand.seated in
    let new = view_of c.retire.new.hand.seated in
    let exchange = c.to_resolve.ensures.exchange in
    goes_on old two new (to_resolve_goes old two c.args.site c.args.row exchange.found exchange.step.view) (retires_go two new c.args.row c.retire.ensures.limbo.0 c.retire.ensures.limbo.2)

pub returns-else-to_resolve-clause-trail : goal.returns-else-to_resolve-clause-trail
returns-else-to_resolve-clause-trail c = unlinks_not (key_of c.args.table.now) c.args.site any c.args.row _ _ (answers c.if-to_resolve.false c.to_resolve.ensures.trail)

pub returns-else-to_resolve-clause-goes : goal.returns-else-to_resolve-clause-goes
returns-else-to_resolve-clause-goes c =
    let old = view_of c.args.hand.now.seated in
    let two = view_of c.to_resolve.new.hand.seated in
    let exchange = c.to_resolve.ensures.exchange in
    to_resolve_goes old two c.args.site c.args.row exchange.found exchange.step.view
