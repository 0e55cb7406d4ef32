use Rattle.std.proofs.Common.{◌<◌, ℕ, sym, subst}
use Rattle.std.proofs.Common.{ap}
use Rattle.vsd_rule.specs.declared.handle_view.HandleView.{HandleView}
use Rattle.vsd_calls.proofs.Walks.{sure_on}
use Rattle.vsd_table.specs.Seating.{view_of, key_of}
use Rattle.vsd_calls.proofs.CallsMade.{answers_hit, answers_miss, goes_stays, stays_on}
use Rattle.vsd_calls.proofs.calling.answer.Goals as goal

pub resolve-requires-clause-pinned : goal.resolve-requires-clause-pinned
resolve-requires-clause-pinned g c = subst (λ (n : ℕ). 0 < n) (sym c.stub.ensures.goes.pinned) c.requires.pinned

pub returns-in-Hit-clause-trail : goal.returns-in-Hit-clause-trail
returns-in-Hit-clause-trail g c = answers_hit (key_of c.args.table.now) c.args.site c.args.h c.args.cell c.in-Hit.target _ _ c.in-Hit.ensures.trail

pub returns-in-Hit-clause-stays : goal.returns-in-Hit-clause-stays
returns-in-Hit-clause-stays g c = goes_stays (view_of c.args.hand.now.seated) (view_of c.stub.new.hand.seated) c.stub.ensures.goes

pub returns-in-Miss-clause-trail : goal.returns-in-Miss-clause-trail
returns-in-Miss-clause-trail g c = answers_miss (key_of c.args.table.now) c.args.site c.args.h c.args.cell c.in-Miss.expected _ _ _ _ c.in-Miss.ensures.trail c.resolve.ensures.trail

pub returns-in-Miss-clause-stays : goal.returns-in-Miss-clause-stays
returns-in-Miss-clause-stays g c =
    let old = view_of c.args.hand.now.seated in
    let one = view_of c.stub.new.hand.seated in
    stays_on old one (view_of c.resolve.new.hand.seated) (goes_stays old one c.stub.ensures.goes) c.resolve.ensures.stays

pub returns-in-Miss-clause-complete : goal.returns-in-Miss-clause-complete
returns-in-Miss-clause-complete g c = λ sure.
    let stays = c.stub.ensures.trail.stays in
    c.resolve.ensures.complete (sure_on (view_of c.args.hand.now.seated) (view_of c.stub.new.hand.seated) c.args.h stays.key stays.who (ap (λ (n : HandleView). n.owned) c.stub.ensures.goes.handles) sure)
