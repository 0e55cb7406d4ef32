use Rattle.std.proofs.Common.{◌≡◌, ◌+◌, ◌-◌, ◌<◌, ℕ, List, zero, suc, length, take, subst, ap, ◌∙◌, arith}
use Rattle.std.proofs.lemmas.List.{take_more_set, take_all}
use Rattle.std.proofs.Common.{length-set}
use Rattle.vsd_table.specs.Seating.{view_of}
use Rattle.vsd_trails.specs.declared.casting.Find.{Find}
use Rattle.vsd_trails.specs.declared.casting.Find.TheVariants.{Miss}
use Rattle.vsd_trails.specs.CastTrails.{probing, probing_row}
use Rattle.vsd_rows.specs.Makes.{Makes}
use Rattle.vsd_rows.proofs.Makes.{answers}
use Rattle.vsd_ccache.specs.Looks.{probed_of}
use Rattle.vsd_ccache.proofs.Sizes.{home_in}
use Rattle.vsd_ccache.proofs.CastStepsMade.{looks_on}
use Rattle.vsd_ccache.proofs.Looking.{probes_hit, probes_on, probes_end}
use Rattle.vsd_ccache.proofs.finding.probe_others.Goals as goal

pub probe_row-row-requires-clause-home : goal.probe_row-row-requires-clause-home
probe_row-row-requires-clause-home c = home_in c.args.source c.args.target c.args.first.region c.args.first.home c.requires.first.home

pub returns-in-Hit-clause-trail : goal.returns-in-Hit-clause-trail
returns-in-Hit-clause-trail c =
    let i = c.loop-i.i in
    let more : i < 8 = c.loop-i-test.true in
    let rest = 8 - i - 1 in
    let old = c.loop-i.hand.seated in
    let new = c.probe.new.hand.seated in
    let first = subst (λ (row : ℕ). Makes old new (probing_row c.args.source c.args.target c.args.first.region row) (probed_of c.probe.result)) c.probe_row-row.ensures.row c.probe.ensures.trail in
    c.loop-i.invariant.leads (suc rest) (omega arith) new _
    (probes_hit c.args.source c.args.target c.args.first.region c.args.first.home rest i (take i c.loop-i.versions) old new c.in-Hit.yes (answers (ap probed_of c.in-Hit.is) first))

pub loop-i-preserved : goal.loop-i-preserved
loop-i-preserved c =
    let i = c.loop-i.i in
    let inv = c.loop-i.invariant in
    let more : i < 8 = c.loop-i-test.true in
    let old = c.loop-i.hand.seated in
    let now = c.probe.new.hand.seated in
    let versions = c.loop-i.versions in
    let version = c.in-Miss.version in
    let eight = inv.eight in
    let within : i < length versions = omega arith in
    let first = subst (λ (row : ℕ). Makes old now (probing_row c.args.source c.args.target c.args.first.region row) (probed_of c.probe.result)) c.probe_row-row.ensures.row c.probe.ensures.trail in
    let missed = answers (ap probed_of c.in-Miss.is) first in
    record {
      begun = omega (arith, inv.begun);
      seat = c.probe.ensures.seat;
      eight = length-set versions i version ∙ eight;
      leads = λ rest sum new a makes. inv.leads (suc rest) (omega arith) new a
          (probes_on c.args.source c.args.target c.args.first.region c.args.first.home rest i (take i versions) old now new version a missed
          (subst (λ (l : List ℕ). Makes now new (probing c.args.source c.args.target c.args.first.region c.args.first.home rest (i + 1) l) a) (take_more_set versions i version within) makes));
      changes = looks_on (view_of c.args.hand.now.seated) (view_of old) (view_of now) inv.changes c.probe.ensures.changes;
      agree = λ some. c.probe.ensures.agree;
    }

pub returns-clause-trail : goal.returns-clause-trail
returns-clause-trail c =
    let i = c.loop-i.i in
    let inv = c.loop-i.invariant in
    let versions = c.loop-i.versions in
    let s = c.loop-i.hand.seated in
    let miss : List ℕ → Find = λ l. Miss (record { region = c.args.first.region; home = c.args.first.home; versions = l }) in
    let eight = inv.eight in
    let all : take i versions ≡ versions = take_all i versions (omega (arith, c.loop-i-test.false)) in
    answers (ap miss all) (inv.leads zero (omega (arith, c.loop-i-test.false)) s _ (probes_end c.args.source c.args.target c.args.first.region c.args.first.home i (take i versions) s))

pub returns-clause-agree : goal.returns-clause-agree
returns-clause-agree c = c.loop-i.invariant.agree (omega (arith, c.loop-i-test.false))
