use Rattle.std.proofs.Common.{◌≤◌, refl, subst}
use Rattle.vsd_rule.specs.declared.key.Key.{Key}
use Rattle.vsd_table.proofs.BucketWords.{may_empty_bucket}
use Rattle.vsd_table.proofs.Seats.{becomes}
use Rattle.vsd_table.proofs.seated.Seated.empty_bucket.Goals as goal

pub swap-found-requires-clause-may : goal.swap-found-requires-clause-may
swap-found-requires-clause-may c = may_empty_bucket c.args.table.now c.args.self.now c.requires.seat c.args.bucket c.bucket_index-index.result c.requires.bucket c.bucket_index-index.ensures.index

pub unpacked_bucket-requires : goal.unpacked_bucket-requires
unpacked_bucket-requires c = subst (λ (k : Key). c.swap-found.result ≤ k.sizes.rows) c.requires.seat.key
    (c.swap-found.ensures.learns c.args.bucket c.bucket_index-index.ensures.index refl refl tt).in_table

pub returns-clause-step : goal.returns-clause-step
returns-clause-step c = becomes c.swap-found.ensures.stays
    ((c.swap-found.ensures.learns c.args.bucket c.bucket_index-index.ensures.index refl refl tt).view c.unpacked_bucket.result c.unpacked_bucket.ensures.packing)
