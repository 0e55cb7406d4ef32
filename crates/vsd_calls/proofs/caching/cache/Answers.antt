use Rattle.std.proofs.Common.{◌≡◌, None, Some, length, sym, ◌∙◌, ap, arith}
use Rattle.vsd_table.specs.Seating.{view_of, key_of}
use Rattle.vsd_rows.proofs.Makes.{answers, makes_none}
use Rattle.vsd_rows.proofs.Leaving.{goes_not, goes_on, claims_go, claims_limbo, same_length, evidence_stays}
use Rattle.vsd_calls.proofs.PartsMade.{caches_not, caches_given}
use Rattle.vsd_calls.proofs.caching.cache.Goals as goal

pub put_pair-requires-clause-evidence : goal.put_pair-requires-clause-evidence
put_pair-requires-clause-evidence c = evidence_stays c.args.hand.now.seated c.claim.new.hand.seated c.args.h c.args.token c.args.target c.claim.ensures.trail.stays c.requires.evidence

pub put_pair-requires-clause-room : goal.put_pair-requires-clause-room
put_pair-requires-clause-room c =
    let hand = c.args.hand.now in
    let limbo = claims_limbo (view_of hand.seated) (view_of c.claim.new.hand.seated) c.claim.result c.claim.ensures.changes in
    let same : length (view_of c.claim.new.hand.seated).rows.limbo ≡ length hand.limbo.items = ap length limbo ∙ sym (same_length hand.limbo.items (view_of hand.seated).rows.limbo hand.same_limbo) in
    let fits = c.room.ensures.fits c.if-not-room.false in
    omega arith

pub returns-then-not-room-clause-trail : goal.returns-then-not-room-clause-trail
returns-then-not-room-clause-trail c = caches_not (key_of c.args.table.now) c.args.token c.args.h c.args.target c.args.hand.now.seated (sym c.room.ensures.room ∙ c.if-not-room.true)

pub returns-then-not-room-clause-goes : goal.returns-then-not-room-clause-goes
returns-then-not-room-clause-goes c = goes_not (view_of c.args.hand.now.seated)

pub returns-in_default-clause-trail : goal.returns-in_default-clause-trail
returns-in_default-clause-trail c =
    caches_given (key_of c.args.table.now) c.args.token c.args.h c.args.target c.args.hand.now.seated _ _ None (sym c.room.ensures.room ∙ c.if-not-room.false) (answers c.in_default.is c.claim.ensures.trail) (makes_none _ tt)

pub returns-in_default-clause-goes : goal.returns-in_default-clause-goes
returns-in_default-clause-goes c = claims_go (view_of c.args.hand.now.seated) (view_of c.claim.new.hand.seated) c.claim.result c.claim.ensures.changes

pub returns-clause-trail : goal.returns-clause-trail
returns-clause-trail c =
    caches_given (key_of c.args.table.now) c.args.token c.args.h c.args.target c.args.hand.now.seated _ _ (Some c.in-Some.row) (sym c.room.ensures.room ∙ c.if-not-room.false) (answers c.in-Some.is c.claim.ensures.trail) c.put_pair.ensures.trail

pub returns-clause-goes : goal.returns-clause-goes
returns-clause-goes c =
    let old = view_of c.args.hand.now.seated in
    let one = view_of c.claim.new.hand.seated in
    goes_on old one (view_of c.put_pair.new.hand.seated) (claims_go old one c.claim.result c.claim.ensures.changes) c.put_pair.ensures.goes
