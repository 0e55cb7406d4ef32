use Rattle.std.proofs.Common.{ℕ, ◌+◌, ◌<◌, ap, subst, sym}
use Rattle.vsd_rule.specs.declared.key.Key.{Key}
use Rattle.vsd_table.proofs.CastWords.{may_grow}
use Rattle.vsd_table.proofs.Seats.{becomes}
use Rattle.vsd_table.proofs.seated.Seated.grow.Goals as goal

pub exchange-found-requires-clause-may : goal.exchange-found-requires-clause-may
exchange-found-requires-clause-may c = let old = c.from-old.ensures in
    may_grow c.args.table.now c.args.self.now c.requires.seat c.region_index-index.result c.region_index-index.ensures.index c.args.region c.from-old.result _ (sym old) (ap (λ (n : ℕ). n + 1) (sym old)) c.requires.last

pub returns-clause-step : goal.returns-clause-step
returns-clause-step c = let old = c.from-old.ensures in
    becomes c.exchange-found.ensures.stays (c.exchange-found.ensures.learns c.args.region c.region_index-index.ensures.index old (ap (λ (n : ℕ). n + 1) old) tt).0

pub returns-clause-lawful : goal.returns-clause-lawful
returns-clause-lawful c = let old = c.from-old.ensures in
    subst (λ (k : Key). c.exchange-found.result < k.sizes.regions) c.requires.seat.key (c.exchange-found.ensures.learns c.args.region c.region_index-index.ensures.index old (ap (λ (n : ℕ). n + 1) old) tt).1
