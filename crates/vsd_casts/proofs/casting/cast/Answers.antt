use Rattle.std.proofs.Common.{◌≡◌, subst}
use Rattle.vsd_rule.specs.declared.key.Key.{Key}
use Rattle.vsd_rule.specs.Lists.{compatible}
use Rattle.std.specs.Int.{from_bool}
use Rattle.vsd_table.specs.Seating.{key_of}
use Rattle.vsd_casts.proofs.CastsMade.{casts_hit, casts_on, logs_cast}
use Rattle.vsd_casts.proofs.Endings.{cast_shown}
use Rattle.vsd_casts.proofs.casting.cast.Goals as goal

pub returns-in-Hit-clause-trail : goal.returns-in-Hit-clause-trail
returns-in-Hit-clause-trail g c = casts_hit (key_of c.args.table.now) c.args.source c.args.target c.in-Hit.yes _ _ c.in-Hit.ensures.begins

pub returns-in-Hit-clause-logged : goal.returns-in-Hit-clause-logged
returns-in-Hit-clause-logged g c =
    logs_cast (key_of c.args.table.now) c.args.source c.args.target _ _ _ c.requires.seat.key
    (casts_hit (key_of c.args.table.now) c.args.source c.args.target c.in-Hit.yes _ _ c.in-Hit.ensures.begins)

pub returns-in-Hit-clause-tells : goal.returns-in-Hit-clause-tells
returns-in-Hit-clause-tells g c =
    cast_shown (key_of c.args.table.now) c.args.source c.args.target _ _ _ c.requires.seat.key
    (casts_hit (key_of c.args.table.now) c.args.source c.args.target c.in-Hit.yes _ _ c.in-Hit.ensures.begins)

pub returns-in-Hit-clause-world : goal.returns-in-Hit-clause-world
returns-in-Hit-clause-world g c = λ number other knows knows'.
    subst (λ (k : Key). from_bool c.in-Hit.yes ≡ compatible k number other) c.probe_first.ensures.seat.key
    (c.probe_first.ensures.agree c.args.source c.args.target c.in-Hit.yes number other c.in-Hit.ensures.found knows knows')

pub returns-in-Miss-clause-trail : goal.returns-in-Miss-clause-trail
returns-in-Miss-clause-trail g c = casts_on (key_of c.args.table.now) c.args.source c.args.target c.in-Miss.first _ _ _ c.go_on.result c.in-Miss.ensures.begins c.go_on.ensures.trail

pub returns-in-Miss-clause-logged : goal.returns-in-Miss-clause-logged
returns-in-Miss-clause-logged g c =
    logs_cast (key_of c.args.table.now) c.args.source c.args.target _ _ c.go_on.result c.requires.seat.key
    (casts_on (key_of c.args.table.now) c.args.source c.args.target c.in-Miss.first _ _ _ c.go_on.result c.in-Miss.ensures.begins c.go_on.ensures.trail)

pub returns-in-Miss-clause-tells : goal.returns-in-Miss-clause-tells
returns-in-Miss-clause-tells g c =
    cast_shown (key_of c.args.table.now) c.args.source c.args.target _ _ c.go_on.result c.requires.seat.key
    (casts_on (key_of c.args.table.now) c.args.source c.args.target c.in-Miss.first _ _ _ c.go_on.result c.in-Miss.ensures.begins c.go_on.ensures.trail)
