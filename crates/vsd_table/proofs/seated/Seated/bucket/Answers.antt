use Rattle.std.proofs.Common.{◌≤◌, refl, subst}
use Rattle.vsd_rule.specs.declared.key.Key.{Key}
use Rattle.vsd_table.proofs.BucketWords.{may_load_bucket}
use Rattle.vsd_table.proofs.Seats.{becomes}
use Rattle.vsd_table.proofs.seated.Seated.bucket.Goals as goal

pub load-found-requires-clause-may : goal.load-found-requires-clause-may
load-found-requires-clause-may c = may_load_bucket c.args.table.now c.args.self.now c.requires.seat c.args.bucket c.bucket_index-index.result c.requires.bucket c.bucket_index-index.ensures.index

pub unpacked_bucket-requires : goal.unpacked_bucket-requires
unpacked_bucket-requires c = subst (λ (k : Key). c.load-found.result ≤ k.sizes.rows) c.requires.seat.key
    (c.load-found.ensures.learns c.args.bucket c.bucket_index-index.ensures.index refl refl tt).in_table

pub returns-clause-step : goal.returns-clause-step
returns-clause-step c = becomes c.load-found.ensures.stays
    ((c.load-found.ensures.learns c.args.bucket c.bucket_index-index.ensures.index refl refl tt).view c.unpacked_bucket.result c.unpacked_bucket.ensures.packing)
