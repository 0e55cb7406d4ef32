use Rattle.std.proofs.Common.{ap}
use Rattle.vsd_rule.specs.declared.handle_view.HandleView.{HandleView}
use Rattle.vsd_calls.proofs.Walks.{sure_on}
use Rattle.vsd_table.specs.Seating.{view_of, key_of}
use Rattle.vsd_rows.proofs.Leaving.{evidence_stays}
use Rattle.vsd_calls.proofs.CallsMade.{resolves_hit, resolves_other, resolves_empty, finds_go, goes_stays, stays_on}
use Rattle.vsd_calls.proofs.calling.resolve.Goals as goal

pub returns-in-Hit-clause-trail : goal.returns-in-Hit-clause-trail
returns-in-Hit-clause-trail g c =
    resolves_hit (key_of c.args.table.now) c.args.site c.args.h c.args.cell c.args.expected c.args.token c.in-Hit.target _ _ _ c.requires.token c.in-Hit.ensures.trail c.install.ensures.trail

pub returns-in-Hit-clause-evidence : goal.returns-in-Hit-clause-evidence
returns-in-Hit-clause-evidence g c = evidence_stays c.find.new.hand.seated c.install.new.hand.seated c.args.h c.args.token c.in-Hit.target c.install.ensures.trail.stays c.in-Hit.ensures.found

pub returns-in-Hit-clause-stays : goal.returns-in-Hit-clause-stays
returns-in-Hit-clause-stays g c =
    let old = view_of c.args.hand.now.seated in
    let one = view_of c.find.new.hand.seated in
    let new = view_of c.install.new.hand.seated in
    stays_on old one new (goes_stays old one (finds_go old one c.find.ensures.changes)) (goes_stays one new c.install.ensures.goes)

pub returns-in-Other-clause-trail : goal.returns-in-Other-clause-trail
returns-in-Other-clause-trail g c =
    resolves_other (key_of c.args.table.now) c.args.site c.args.h c.args.cell c.args.expected c.args.token c.in-Other.g c.in-Other.t _ _ _ _ c.requires.token c.in-Other.ensures.trail c.walk.ensures.trail

pub returns-in-Other-clause-stays : goal.returns-in-Other-clause-stays
returns-in-Other-clause-stays g c =
    let old = view_of c.args.hand.now.seated in
    let one = view_of c.find.new.hand.seated in
    stays_on old one (view_of c.walk.new.hand.seated) (goes_stays old one (finds_go old one c.find.ensures.changes)) c.walk.ensures.stays

pub returns-in-Empty-clause-trail : goal.returns-in-Empty-clause-trail
returns-in-Empty-clause-trail g c =
    resolves_empty (key_of c.args.table.now) c.args.site c.args.h c.args.cell c.args.expected c.args.token _ _ _ _ c.requires.token c.in-Empty.ensures.trail c.walk-in-Empty.ensures.trail

pub returns-in-Empty-clause-stays : goal.returns-in-Empty-clause-stays
returns-in-Empty-clause-stays g c =
    let old = view_of c.args.hand.now.seated in
    let one = view_of c.find.new.hand.seated in
    stays_on old one (view_of c.walk-in-Empty.new.hand.seated) (goes_stays old one (finds_go old one c.find.ensures.changes)) c.walk-in-Empty.ensures.stays

pub returns-in-Other-clause-complete : goal.returns-in-Other-clause-complete
returns-in-Other-clause-complete g c = λ sure.
    let old = view_of c.args.hand.now.seated in
    let one = view_of c.find.new.hand.seated in
    let goes = finds_go old one c.find.ensures.changes in
    let stays = c.find.ensures.trail.stays in
    c.walk.ensures.complete (sure_on old one c.args.h stays.key stays.who (ap (λ (n : HandleView). n.owned) goes.handles) sure)

pub returns-in-Empty-clause-complete : goal.returns-in-Empty-clause-complete
returns-in-Empty-clause-complete g c = λ sure.
    let old = view_of c.args.hand.now.seated in
    let one = view_of c.find.new.hand.seated in
    let goes = finds_go old one c.find.ensures.changes in
    let stays = c.find.ensures.trail.stays in
    c.walk-in-Empty.ensures.complete (sure_on old one c.args.h stays.key stays.who (ap (λ (n : HandleView). n.owned) goes.handles) sure)
