use Rattle.std.proofs.Common.{◌<◌, ◌≤◌, Bool, ◌&&◌, sym, ◌∙◌, ap, subst, le-leb, arith}
use Rattle.vsd_rule.specs.declared.sizes.Sizes.{Sizes}
use Rattle.vsd_table.specs.Seating.{view_of, key_of}
use Rattle.vsd_trails.specs.RowTrails.{has_room}
use Rattle.vsd_rows.proofs.Leaving.{goes_on, count_goes, same_length}
use Rattle.vsd_calls.proofs.PartsMade.{patches_not, patches, below_limit}
use Rattle.vsd_calls.proofs.patching.patch.Goals as goal

pub unlink-requires-clause-room : goal.unlink-requires-clause-room
unlink-requires-clause-room c =
    let hand = c.miss-count.new.hand in
    let same = same_length hand.limbo.items (view_of hand.seated).rows.limbo hand.same_limbo in
    let fits = c.room.ensures.fits c.if-room.true in
    omega arith

pub returns-then-count-limit-clause-trail : goal.returns-then-count-limit-clause-trail
returns-then-count-limit-clause-trail c = λ h.
    let k = key_of c.args.table.now in
    let low : c.miss-count.result < k.sizes.miss = subst (λ (s : Sizes). c.miss-count.result < s.miss) c.sizes-limit.ensures.known c.if-count-limit.true in
    patches_not k c.args.site h c.args.row c.args.token c.miss-count.result _ _ c.requires.token c.miss-count.ensures.trail
    (below_limit k.sizes.miss c.miss-count.result (has_room (view_of c.miss-count.new.hand.seated).rows.limbo) low)

pub returns-then-room-clause-trail : goal.returns-then-room-clause-trail
returns-then-room-clause-trail c = λ h.
    let k = key_of c.args.table.now in
    let high : k.sizes.miss ≤ c.miss-count.result = subst (λ (s : Sizes). s.miss ≤ c.miss-count.result) c.sizes-limit.ensures.known c.if-count-limit.false in
    patches k c.args.site h c.args.row c.args.token c.miss-count.result _ _ _ c.requires.token c.miss-count.ensures.trail
    (ap (λ (b : Bool). b && has_room (view_of c.miss-count.new.hand.seated).rows.limbo) (le-leb k.sizes.miss c.miss-count.result high) ∙ (sym c.room.ensures.room ∙ c.if-room.true))
    c.unlink.ensures.trail

pub returns-else-room-clause-trail : goal.returns-else-room-clause-trail
returns-else-room-clause-trail c = λ h.
    let k = key_of c.args.table.now in
    let high : k.sizes.miss ≤ c.miss-count.result = subst (λ (s : Sizes). s.miss ≤ c.miss-count.result) c.sizes-limit.ensures.known c.if-count-limit.false in
    patches_not k c.args.site h c.args.row c.args.token c.miss-count.result _ _ c.requires.token c.miss-count.ensures.trail
    (ap (λ (b : Bool). b && has_room (view_of c.miss-count.new.hand.seated).rows.limbo) (le-leb k.sizes.miss c.miss-count.result high) ∙ (sym c.room.ensures.room ∙ c.if-room.false))

pub returns-then-count-limit-clause-goes : goal.returns-then-count-limit-clause-goes
returns-then-count-limit-clause-goes c = count_goes (view_of c.args.hand.now.seated) (view_of c.miss-count.new.hand.seated) c.args.token c.miss-count.ensures.step.0 c.miss-count.ensures.step.2.view

pub returns-then-room-clause-goes : goal.returns-then-room-clause-goes
returns-then-room-clause-goes c =
    let old = view_of c.args.hand.now.seated in
    let one = view_of c.miss-count.new.hand.seated in
    goes_on old one (view_of c.unlink.new.hand.seated) (count_goes old one c.args.token c.miss-count.ensures.step.0 c.miss-count.ensures.step.2.view) c.unlink.ensures.goes

pub returns-else-room-clause-goes : goal.returns-else-room-clause-goes
returns-else-room-clause-goes c = count_goes (view_of c.args.hand.now.seated) (view_of c.miss-count.new.hand.seated) c.args.token c.miss-count.ensures.step.0 c.miss-count.ensures.step.2.view
