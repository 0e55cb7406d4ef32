use Rattle.std.proofs.Common.{ℕ, ap, ◌∙◌}
use Rattle.vsd_words.specs.Hash.{home_of}
use Rattle.vsd_rows.proofs.Makes.{answers}
use Rattle.vsd_ccache.specs.Looks.{probed_of}
use Rattle.vsd_ccache.proofs.Looking.{finds_hit, finds_on}
use Rattle.vsd_ccache.proofs.finding.probe_first.Goals as goal

pub returns-in-Hit-clause-begins : goal.returns-in-Hit-clause-begins
returns-in-Hit-clause-begins c =
    finds_hit c.args.source c.args.target c.args.hand.now.seated c.region-region.new.self c.probe.new.hand.seated c.region-region.result c.home_of-home.result c.probe_row-row.result c.in-Hit.yes
    c.region-region.ensures.step (c.home_of-home.ensures.formula ∙ ap (λ (size : ℕ). home_of c.args.source c.args.target size) c.region_size.ensures.size) c.probe_row-row.ensures.row
    (answers (ap probed_of c.in-Hit.is) c.probe.ensures.trail)

pub returns-in-Miss-clause-begins : goal.returns-in-Miss-clause-begins
returns-in-Miss-clause-begins c = λ new a rest.
    finds_on c.args.source c.args.target c.args.hand.now.seated c.region-region.new.self c.probe.new.hand.seated new c.region-region.result c.home_of-home.result c.probe_row-row.result
    c.in-Miss.version a c.region-region.ensures.step (c.home_of-home.ensures.formula ∙ ap (λ (size : ℕ). home_of c.args.source c.args.target size) c.region_size.ensures.size) c.probe_row-row.ensures.row
    (answers (ap probed_of c.in-Miss.is) c.probe.ensures.trail) rest
