use Rattle.std.proofs.Common.{◌+◌, ◌<◌, ◌≤◌, sym, ◌∙◌, subst, lt-ltb, le-ltb, arith}
use Rattle.vsd_rule.specs.declared.sizes.Sizes.{Sizes}
use Rattle.vsd_table.specs.Seating.{key_of}
use Rattle.vsd_ccache.proofs.Writing.{puts_first, puts_region, puts_chosen}
use Rattle.vsd_ccache.proofs.Showing.{put_shown}
use Rattle.vsd_ccache.proofs.putting.put.Goals as goal

pub returns-in-Some-clause-trail : goal.returns-in-Some-clause-trail
returns-in-Some-clause-trail c =
    puts_first (key_of c.args.table.now) c.args.miss c.args.source c.args.target c.args.yes c.in-Some.i _ _ c.write.result (sym c.first_unused.ensures.first ∙ c.in-Some.is) c.write.ensures.trail

pub returns-in-Some-clause-tells : goal.returns-in-Some-clause-tells
returns-in-Some-clause-tells c =
    put_shown (key_of c.args.table.now) c.args.miss c.args.source c.args.target c.args.yes _ _ c.write.result c.requires.seat.key
    (puts_first (key_of c.args.table.now) c.args.miss c.args.source c.args.target c.args.yes c.in-Some.i _ _ c.write.result (sym c.first_unused.ensures.first ∙ c.in-Some.is) c.write.ensures.trail)

-- none was 0, and there is a next region
pub returns-then-miss-sizes-clause-trail : goal.returns-then-miss-sizes-clause-trail
returns-then-miss-sizes-clause-trail c =
    let k = key_of c.args.table.now in
    let next : c.args.miss.region + 1 < k.sizes.regions = subst (λ (s : Sizes). c.args.miss.region + 1 < s.regions) c.sizes.ensures.known c.if-miss-sizes.true in
    puts_region k c.args.miss c.args.source c.args.target c.args.yes _ _ c.grow.result (sym c.first_unused.ensures.first ∙ c.in_default.is)
    (lt-ltb (c.args.miss.region + 1) k.sizes.regions next) c.grow.ensures.trail

pub returns-then-miss-sizes-clause-tells : goal.returns-then-miss-sizes-clause-tells
returns-then-miss-sizes-clause-tells c =
    let k = key_of c.args.table.now in
    let next : c.args.miss.region + 1 < k.sizes.regions = subst (λ (s : Sizes). c.args.miss.region + 1 < s.regions) c.sizes.ensures.known c.if-miss-sizes.true in
    put_shown k c.args.miss c.args.source c.args.target c.args.yes _ _ c.grow.result c.requires.seat.key
    (puts_region k c.args.miss c.args.source c.args.target c.args.yes _ _ c.grow.result (sym c.first_unused.ensures.first ∙ c.in_default.is)
    (lt-ltb (c.args.miss.region + 1) k.sizes.regions next) c.grow.ensures.trail)

-- none was 0, and there is no next region
pub returns-clause-trail : goal.returns-clause-trail
returns-clause-trail c =
    let k = key_of c.args.table.now in
    let last : k.sizes.regions ≤ c.args.miss.region + 1 = subst (λ (s : Sizes). s.regions ≤ c.args.miss.region + 1) c.sizes.ensures.known (omega (arith, c.if-miss-sizes.false)) in
    puts_chosen k c.args.miss c.args.source c.args.target c.args.yes c.chosen_by-i.result _ _ c.write-2.result (sym c.first_unused.ensures.first ∙ c.in_default.is)
    (le-ltb (c.args.miss.region + 1) k.sizes.regions last) c.chosen_by-i.ensures.chosen c.write-2.ensures.trail

pub returns-clause-tells : goal.returns-clause-tells
returns-clause-tells c =
    let k = key_of c.args.table.now in
    let last : k.sizes.regions ≤ c.args.miss.region + 1 = subst (λ (s : Sizes). s.regions ≤ c.args.miss.region + 1) c.sizes.ensures.known (omega (arith, c.if-miss-sizes.false)) in
    put_shown k c.args.miss c.args.source c.args.target c.args.yes _ _ c.write-2.result c.requires.seat.key
    (puts_chosen k c.args.miss c.args.source c.args.target c.args.yes c.chosen_by-i.result _ _ c.write-2.result (sym c.first_unused.ensures.first ∙ c.in_default.is)
    (le-ltb (c.args.miss.region + 1) k.sizes.regions last) c.chosen_by-i.ensures.chosen c.write-2.ensures.trail)
