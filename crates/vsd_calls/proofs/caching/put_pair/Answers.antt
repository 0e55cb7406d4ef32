use Rattle.std.proofs.Common.{◌≡◌, None, Some, length, ◌∙◌, ap, arith}
use Rattle.vsd_rule.specs.declared.view.View.{View}
use Rattle.vsd_table.specs.Seating.{view_of, key_of}
use Rattle.vsd_rows.proofs.Makes.{answers, makes_none}
use Rattle.vsd_rows.proofs.Leaving.{goes_on, fill_goes, put_goes, retires_go, put_limbo, same_length}
use Rattle.vsd_calls.proofs.PartsMade.{caches_row}
use Rattle.vsd_calls.proofs.caching.put_pair.Goals as goal

pub retire-requires-clause-room : goal.retire-requires-clause-room
retire-requires-clause-room c =
    let old = view_of c.args.hand.now.seated in
    let one = view_of c.fill.new.hand.seated in
    let two = c.put.new.hand in
    let limbo = put_limbo one (view_of two.seated) _ c.args.row c.put.result c.put.ensures.step.view ∙ ap (λ (v : View). v.rows.limbo) c.fill.ensures.step.view in
    let same : length two.limbo.items ≡ length old.rows.limbo = same_length two.limbo.items (view_of two.seated).rows.limbo two.same_limbo ∙ ap length limbo in
    omega arith

pub returns-in-Some-clause-trail : goal.returns-in-Some-clause-trail
returns-in-Some-clause-trail c =
    caches_row (key_of c.args.table.now) c.args.token c.args.h c.args.target c.args.row _ _ _ _ (Some c.in-Some.out) c.fill.ensures.trail (answers c.in-Some.is c.put.ensures.trail) c.retire.ensures.trail

pub returns-in-Some-clause-goes : goal.returns-in-Some-clause-goes
returns-in-Some-clause-goes c =
    let old = view_of c.args.hand.now.seated in
    let one = view_of c.fill.new.hand.seated in
    let two = view_of c.put.new.hand.seated in
    let new = view_of c.retire.new.hand.seated in
    goes_on old two new (goes_on old one two (fill_goes old one c.args.row c.args.h c.args.token c.args.target c.fill.ensures.step.view) (put_goes one two _ c.args.row c.put.result c.put.ensures.step.view))
    (retires_go two new c.in-Some.out c.retire.ensures.limbo.0 c.retire.ensures.limbo.2)

pub returns-in_default-clause-trail : goal.returns-in_default-clause-trail
returns-in_default-clause-trail c =
    caches_row (key_of c.args.table.now) c.args.token c.args.h c.args.target c.args.row _ _ _ _ None c.fill.ensures.trail (answers c.in_default.is c.put.ensures.trail) (makes_none _ tt)

pub returns-in_default-clause-goes : goal.returns-in_default-clause-goes
returns-in_default-clause-goes c =
    let old = view_of c.args.hand.now.seated in
    let one = view_of c.fill.new.hand.seated in
    let two = view_of c.put.new.hand.seated in
    goes_on old one two (fill_goes old one c.args.row c.args.h c.args.token c.args.target c.fill.ensures.step.view) (put_goes one two _ c.args.row c.put.result c.put.ensures.step.view)
