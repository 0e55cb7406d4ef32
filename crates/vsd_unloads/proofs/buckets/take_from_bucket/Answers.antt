use Rattle.std.proofs.Common.{◌≡◌, Option, length, ◌∙◌, sym, ap, arith, ℕ}
use Rattle.vsd_table.specs.Seating.{view_of}
use Rattle.vsd_trails.specs.RowTrails.{retiring_any}
use Rattle.vsd_rows.proofs.Makes.{answers, joined, makes_none}
use Rattle.vsd_rows.proofs.Leaving.{goes_on, retires_go, same_length}
use Rattle.vsd_unloads.proofs.Leaving.{empty_goes, empty_limbo}
use Rattle.vsd_unloads.proofs.buckets.take_from_bucket.Goals as goal

pub retire-requires-clause-room : goal.retire-requires-clause-room
retire-requires-clause-room c =
    let hand = c.args.hand.now in
    let two = c.purge.new.hand in
    let limbo = empty_limbo (view_of hand.seated) (view_of two.seated) c.args.bucket c.purge.result c.purge.ensures.step.view in
    let same : length two.limbo.items ≡ length hand.limbo.items =
    same_length two.limbo.items (view_of two.seated).rows.limbo two.same_limbo ∙ (ap length limbo ∙ sym (same_length hand.limbo.items (view_of hand.seated).rows.limbo hand.same_limbo)) in
    omega arith

pub returns-in-Some-clause-trail : goal.returns-in-Some-clause-trail
returns-in-Some-clause-trail c = joined (λ (out : Option ℕ). retiring_any out) (answers c.in-Some.is c.purge.ensures.trail) c.retire.ensures.trail

pub returns-in-Some-clause-goes : goal.returns-in-Some-clause-goes
returns-in-Some-clause-goes c =
    let old = view_of c.args.hand.now.seated in
    let two = view_of c.purge.new.hand.seated in
    let new = view_of c.retire.new.hand.seated in
    goes_on old two new (empty_goes old two c.args.bucket c.purge.result c.purge.ensures.step.view) (retires_go two new c.in-Some.out c.retire.ensures.limbo.0 c.retire.ensures.limbo.2)

pub returns-in_default-clause-trail : goal.returns-in_default-clause-trail
returns-in_default-clause-trail c = joined (λ (out : Option ℕ). retiring_any out) (answers c.in_default.is c.purge.ensures.trail) (makes_none _ tt)

pub returns-in_default-clause-goes : goal.returns-in_default-clause-goes
returns-in_default-clause-goes c = empty_goes (view_of c.args.hand.now.seated) (view_of c.purge.new.hand.seated) c.args.bucket c.purge.result c.purge.ensures.step.view
