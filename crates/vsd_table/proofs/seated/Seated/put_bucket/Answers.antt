use Rattle.std.proofs.Common.{ℕ, ◌+◌, ◌≤◌, ap, refl, subst}
use Rattle.vsd_rule.specs.declared.key.Key.{Key}
use Rattle.vsd_table.proofs.BucketWords.{may_put_bucket}
use Rattle.vsd_table.proofs.Seats.{becomes}
use Rattle.vsd_table.proofs.seated.Seated.put_bucket.Goals as goal

pub swap-found-requires-clause-may : goal.swap-found-requires-clause-may
swap-found-requires-clause-may c = may_put_bucket c.args.table.now c.args.self.now c.requires.seat c.args.bucket c.bucket_index-index.result c.requires.bucket c.bucket_index-index.ensures.index c.args.row _ (ap (λ (n : ℕ). n + 1) c.from.ensures) c.requires.row c.requires.filled

pub unpacked_bucket-requires : goal.unpacked_bucket-requires
unpacked_bucket-requires c = subst (λ (k : Key). c.swap-found.result ≤ k.sizes.rows) c.requires.seat.key
    (c.swap-found.ensures.learns (record { bucket = c.args.bucket; row = c.args.row }) c.bucket_index-index.ensures.index (ap (λ (n : ℕ). n + 1) c.from.ensures) refl tt).in_table

pub returns-clause-step : goal.returns-clause-step
returns-clause-step c = becomes c.swap-found.ensures.stays
    ((c.swap-found.ensures.learns (record { bucket = c.args.bucket; row = c.args.row }) c.bucket_index-index.ensures.index (ap (λ (n : ℕ). n + 1) c.from.ensures) refl tt).view c.unpacked_bucket.result c.unpacked_bucket.ensures.packing)
