use Rattle.std.proofs.Common.{ℕ, sym, ◌∙◌, subst, slice_index}
use Rattle.vsd_table.specs.Seating.{key_of}
use Rattle.vsd_rows.specs.Makes.{Makes}
use Rattle.vsd_trails.specs.CastTrails.{making_odd, publishing}
use Rattle.vsd_trails.specs.declared.casting.Put.TheVariants.{Written}
use Rattle.vsd_ccache.proofs.Sizes.{home_in}
use Rattle.vsd_ccache.proofs.Writing.{writes_busy, writes_lost, writes_won}
use Rattle.vsd_ccache.proofs.putting.write.Goals as goal

pub returns-then-is_busy-clause-trail : goal.returns-then-is_busy-clause-trail
returns-then-is_busy-clause-trail c = writes_busy (key_of c.args.table.now) c.args.miss c.args.source c.args.target c.args.yes c.args.i c.args.hand.now.seated (sym c.is_busy.ensures ∙ c.if-is_busy.true)

pub probe_row-row-requires-clause-home : goal.probe_row-row-requires-clause-home
probe_row-row-requires-clause-home c = home_in c.args.source c.args.target c.args.miss.region c.args.miss.home c.requires.miss.home

pub returns-then-not-won-clause-trail : goal.returns-then-not-won-clause-trail
returns-then-not-won-clause-trail c =
    let found = c.make_odd-won.result.1 in
    let version = slice_index c.args.miss.versions c.args.i in
    let first = subst (λ (row : ℕ). Makes c.args.hand.now.seated c.make_odd-won.new.hand.seated (making_odd c.args.miss.region row version) found) c.probe_row-row.ensures.row c.make_odd-won.ensures.trail in
    writes_lost (key_of c.args.table.now) c.args.miss c.args.source c.args.target c.args.yes c.args.i c.args.hand.now.seated c.make_odd-won.new.hand.seated found
    (sym c.is_busy.ensures ∙ c.if-is_busy.false) first (sym c.make_odd-won.ensures.won ∙ c.if-not-won.true)

pub returns-clause-trail : goal.returns-clause-trail
returns-clause-trail c =
    let found = c.make_odd-won.result.1 in
    let version = slice_index c.args.miss.versions c.args.i in
    let old = c.args.hand.now.seated in
    let now = c.make_odd-won.new.hand.seated in
    let first = subst (λ (row : ℕ). Makes old now (making_odd c.args.miss.region row version) found) c.probe_row-row.ensures.row c.make_odd-won.ensures.trail in
    let second = subst (λ (row : ℕ). Makes now c.publish.new.hand.seated (publishing c.args.miss.region row c.args.source (record { target = c.args.target; yes = c.args.yes }) version) Written) c.probe_row-row.ensures.row c.publish.ensures.trail in
    writes_won (key_of c.args.table.now) c.args.miss c.args.source c.args.target c.args.yes c.args.i old now c.publish.new.hand.seated found
    (sym c.is_busy.ensures ∙ c.if-is_busy.false) first (sym c.make_odd-won.ensures.won ∙ c.if-not-won.false) second
