use Rattle.vsd_ccache.proofs.Writing.{odd_claims, odd_reclaims}
use Rattle.vsd_ccache.proofs.putting.make_odd.Goals as goal

pub returns-then-version-eq0-clause-trail : goal.returns-then-version-eq0-clause-trail
returns-then-version-eq0-clause-trail c =
    odd_claims c.args.hand.now.seated c.claim_cast.new.self c.args.region c.args.row c.args.version c.claim_cast.result.1 c.if-version-eq0.true c.claim_cast.ensures.step

pub returns-else-version-eq0-clause-trail : goal.returns-else-version-eq0-clause-trail
returns-else-version-eq0-clause-trail c =
    odd_reclaims c.args.hand.now.seated c.reclaim_cast.new.self c.args.region c.args.row c.args.version c.reclaim_cast.result.1 c.if-version-eq0.false c.reclaim_cast.ensures.step
