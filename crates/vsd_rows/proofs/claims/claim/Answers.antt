use Rattle.std.proofs.Common.{◌≡◌, ◌+◌, ◌-◌, ◌<◌, min, ℕ, zero, suc, Bool, Some, None, subst, arith}
use Rattle.vsd_table.specs.Seating.{view_of, key_of}
use Rattle.vsd_trails.specs.RowTrails.{claiming_from}
use Rattle.vsd_rows.specs.Makes.{Makes}
use Rattle.vsd_rows.specs.Hands.{Claims, given_if}
use Rattle.vsd_rows.proofs.Makes.{answers}
use Rattle.vsd_rows.proofs.Sweeping.{tried_on, won_now, ends_search, claims_on, searched, given_private}
use Rattle.vsd_rows.proofs.Searching.{found_claimed}
use Rattle.vsd_rows.proofs.claims.claim.Goals as goal

pub returns-then-claim_next-clause-trail : goal.returns-then-claim_next-clause-trail
returns-then-claim_next-clause-trail c =
    let k = key_of c.args.table.now in
    let hand = c.loop-tried.hand in
    let tried = c.loop-tried._tried in
    let rest = min 8 k.sizes.rows - tried - 1 in
    let all = c.most_tried-tried-end.ensures in
    let more : tried < c.most_tried-tried-end.result = c.loop-tried-test.true in
    let sum : tried + suc rest ≡ min 8 k.sizes.rows = omega arith in
    searched k _ _ _ _ c.args.hand.now.same_cursor
    (c.loop-tried.invariant.leads (suc rest) sum _ _ (won_now k rest hand.cursor _ _ (answers c.if-claim_next.true c.claim_next.ensures.trail)))

pub returns-then-claim_next-clause-changes : goal.returns-then-claim_next-clause-changes
returns-then-claim_next-clause-changes c =
    let hand = c.loop-tried.hand in
    claims_on (view_of c.args.hand.now.seated) (view_of hand.seated) (view_of c.claim_next.new.hand.seated) (Some hand.cursor) c.loop-tried.invariant.moved
    (subst (λ (won : Bool). Claims (view_of hand.seated) (view_of c.claim_next.new.hand.seated) (given_if won hand.cursor)) c.if-claim_next.true c.claim_next.ensures.changes)

pub returns-then-claim_next-clause-private : goal.returns-then-claim_next-clause-private
returns-then-claim_next-clause-private c =
    let hand = c.loop-tried.hand in
    given_private (view_of hand.seated) _ hand.cursor
    (subst (λ (won : Bool). Claims (view_of hand.seated) (view_of c.claim_next.new.hand.seated) (given_if won hand.cursor)) c.if-claim_next.true c.claim_next.ensures.changes)

pub loop-tried-preserved : goal.loop-tried-preserved
loop-tried-preserved c =
    let k = key_of c.args.table.now in
    let hand = c.loop-tried.hand in
    let inv = c.loop-tried.invariant in
    record {
      seat = c.claim_next.ensures.seat;
      leads = λ rest sum new a makes. inv.leads (suc rest) (omega arith) new a
          (tried_on k rest hand.cursor _ _ new a (answers c.if-claim_next.false c.claim_next.ensures.trail)
          (subst (λ (row : ℕ). Makes c.claim_next.new.hand.seated new (claiming_from k rest row) a) c.claim_next.ensures.cursor makes));
      moved = claims_on (view_of c.args.hand.now.seated) (view_of hand.seated) (view_of c.claim_next.new.hand.seated) None inv.moved
          (subst (λ (won : Bool). Claims (view_of hand.seated) (view_of c.claim_next.new.hand.seated) (given_if won hand.cursor)) c.if-claim_next.false c.claim_next.ensures.changes);
    }

pub returns-clause-trail : goal.returns-clause-trail
returns-clause-trail c =
    let k = key_of c.args.table.now in
    let hand = c.loop-tried.hand in
    let tried = c.loop-tried._tried in
    let all = c.most_tried-tried-end.ensures in
    let sum : tried + zero ≡ min 8 k.sizes.rows = omega arith in
    searched k _ _ _ _ c.args.hand.now.same_cursor (c.loop-tried.invariant.leads zero sum _ _ (ends_search k hand.cursor hand.seated))

pub returns-clause-cause : goal.returns-clause-cause
returns-clause-cause c =
    let k = key_of c.args.table.now in
    let hand = c.loop-tried.hand in
    let tried = c.loop-tried._tried in
    let all = c.most_tried-tried-end.ensures in
    let sum : tried + zero ≡ min 8 k.sizes.rows = omega arith in
    found_claimed k c.args.hand.now.cursor c.args.hand.now.seated hand.seated c.requires.seat.key c.args.hand.now.same_cursor
    (searched k _ _ _ _ c.args.hand.now.same_cursor (c.loop-tried.invariant.leads zero sum _ _ (ends_search k hand.cursor hand.seated)))
