-- The bytes from this one on lead from here to the bucket.
use Rattle.std.proofs.Common.{◌≡◌, ◌<◌, drop}
use Rattle.vsd_slots.specs.Named.{bucket, bucket_from}
use Rattle.vsd_slots.proofs.named.bucket.Given as goal

abbrev pub invariant-loop-k : goal.invariant-loop-k
invariant-loop-k l = record {
  few : l.n < 256;
  left : bucket_from l.n (drop l.k l.name) ≡ bucket l.name;
}
