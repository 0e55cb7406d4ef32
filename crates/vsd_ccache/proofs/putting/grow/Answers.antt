use Rattle.std.proofs.Common.{ap, sym, ◌∙◌}
use Rattle.vsd_table.specs.Seating.{key_of}
use Rattle.vsd_rows.proofs.Makes.{answers}
use Rattle.vsd_rows.proofs.Filling.{test_is}
use Rattle.vsd_trails.specs.declared.casting.Put.TheVariants.{Nothing}
use Rattle.vsd_trails.specs.declared.casting.Lost.TheVariants as lost
use Rattle.vsd_ccache.proofs.Writing.{grows_won, grows_lost}
use Rattle.vsd_ccache.proofs.putting.grow.Goals as goal

pub returns-then-won-clause-trail : goal.returns-then-won-clause-trail
returns-then-won-clause-trail c =
    let found = c.grow-won.result.1 in
    grows_won (key_of c.args.table.now) c.args.miss c.args.source c.args.target c.args.yes _ _ found c.grow-won.ensures.step
    (test_is c.grow-won.result.0 found c.args.miss.region c.grow-won.ensures.won ∙ c.if-won.true)

pub returns-else-won-clause-trail : goal.returns-else-won-clause-trail
returns-else-won-clause-trail c =
    let found = c.grow-won.result.1 in
    answers (ap (λ w. Nothing (lost.Grow w)) (sym c.from.ensures))
    (grows_lost (key_of c.args.table.now) c.args.miss c.args.source c.args.target c.args.yes _ _ found c.grow-won.ensures.step
    (test_is c.grow-won.result.0 found c.args.miss.region c.grow-won.ensures.won ∙ c.if-won.false))
