use Rattle.vsd_trails.specs.declared.casting.Find.TheVariants.{Hit}
use Rattle.vsd_ccache.proofs.Showing.{find_shown}
use Rattle.vsd_ccache.proofs.finding.find.Goals as goal

pub returns-in-Hit-clause-trail : goal.returns-in-Hit-clause-trail
returns-in-Hit-clause-trail c = c.in-Hit.ensures.begins

pub returns-in-Hit-clause-tells : goal.returns-in-Hit-clause-tells
returns-in-Hit-clause-tells c = find_shown c.args.source c.args.target c.args.hand.now.seated c.probe_first.new.hand.seated (Hit c.in-Hit.yes) c.in-Hit.ensures.begins

pub returns-in-Miss-clause-trail : goal.returns-in-Miss-clause-trail
returns-in-Miss-clause-trail c = c.in-Miss.ensures.begins c.probe_others.new.hand.seated c.probe_others.result c.probe_others.ensures.trail

pub returns-in-Miss-clause-tells : goal.returns-in-Miss-clause-tells
returns-in-Miss-clause-tells c =
    find_shown c.args.source c.args.target c.args.hand.now.seated c.probe_others.new.hand.seated c.probe_others.result
    (c.in-Miss.ensures.begins c.probe_others.new.hand.seated c.probe_others.result c.probe_others.ensures.trail)
