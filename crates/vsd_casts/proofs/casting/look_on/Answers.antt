use Rattle.std.proofs.Common.{◌≡◌, subst}
use Rattle.vsd_rule.specs.declared.key.Key.{Key}
use Rattle.vsd_rule.specs.Lists.{compatible}
use Rattle.std.specs.Int.{from_bool}
use Rattle.vsd_table.specs.Seating.{key_of}
use Rattle.vsd_trails.specs.declared.casting.Find.TheVariants as find
use Rattle.vsd_casts.proofs.CastsMade.{ends_hit}
use Rattle.vsd_casts.proofs.casting.look_on.Goals as goal

pub returns-in-Hit-clause-trail : goal.returns-in-Hit-clause-trail
returns-in-Hit-clause-trail g c = record {
  now = c.probe_others.new.hand.seated;
  found = find.Hit c.in-Hit.yes;
  looks = c.in-Hit.ensures.trail;
  goes = ends_hit (key_of c.args.table.now) c.args.source c.args.target c.in-Hit.yes c.probe_others.new.hand.seated;
}

pub returns-in-Hit-clause-world : goal.returns-in-Hit-clause-world
returns-in-Hit-clause-world g c = λ number other knows knows'.
    subst (λ (k : Key). from_bool c.in-Hit.yes ≡ compatible k number other) c.probe_others.ensures.seat.key
    (c.probe_others.ensures.agree c.args.source c.args.target c.in-Hit.yes number other c.in-Hit.ensures.found knows knows')

pub returns-in-Miss-clause-trail : goal.returns-in-Miss-clause-trail
returns-in-Miss-clause-trail g c = record {
  now = c.probe_others.new.hand.seated;
  found = find.Miss c.in-Miss.miss;
  looks = c.in-Miss.ensures.trail;
  goes = c.walk.ensures.trail;
}
