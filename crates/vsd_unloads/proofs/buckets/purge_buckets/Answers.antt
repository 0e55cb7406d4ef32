use Rattle.std.proofs.Common.{◌≡◌, ◌+◌, ◌<◌, ℕ, zero, suc, sym, subst, arith}
use Rattle.vsd_rule.specs.declared.sizes.Sizes.{Sizes}
use Rattle.vsd_table.specs.Seating.{view_of, key_of}
use Rattle.vsd_rows.proofs.Leaving.{goes_on}
use Rattle.vsd_unloads.proofs.PartsMade.{buckets_on, buckets_end}
use Rattle.vsd_unloads.proofs.buckets.purge_buckets.Goals as goal

pub purge_bucket-requires-clause-bucket : goal.purge_bucket-requires-clause-bucket
purge_bucket-requires-clause-bucket c = subst (λ (s : Sizes). c.loop-bucket.bucket < s.buckets) c.sizes.ensures.known (subst (λ (n : ℕ). c.loop-bucket.bucket < n) c.from-bucket-end.ensures c.loop-bucket-test.true)

pub purge_bucket-requires-clause-pinned : goal.purge_bucket-requires-clause-pinned
purge_bucket-requires-clause-pinned c = subst (λ (n : ℕ). 0 < n) (sym c.loop-bucket.invariant.goes.pinned) c.requires.pinned

pub loop-bucket-preserved : goal.loop-bucket-preserved
loop-bucket-preserved c =
    let bucket = c.loop-bucket.bucket in
    let inv = c.loop-bucket.invariant in
    record {
      seat = c.purge_bucket.ensures.seat;
      leads = λ rest sum new a makes. inv.leads (suc rest) (omega arith) new a (buckets_on c.args.h rest bucket _ _ new a c.purge_bucket.ensures.trail makes);
      goes = goes_on (view_of c.args.hand.now.seated) (view_of c.loop-bucket.hand.seated) (view_of c.purge_bucket.new.hand.seated) inv.goes c.purge_bucket.ensures.goes;
    }

pub returns-clause-trail : goal.returns-clause-trail
returns-clause-trail c =
    let k = key_of c.args.table.now in
    let bucket = c.loop-bucket.bucket in
    let all : c.sizes.result ≡ k.sizes = c.sizes.ensures.known in
    let end : bucket ≡ k.sizes.buckets = subst (λ (s : Sizes). bucket ≡ s.buckets) all (omega (arith, c.from-bucket-end.ensures)) in
    let sum : bucket + zero ≡ k.sizes.buckets = omega arith in
    c.loop-bucket.invariant.leads zero sum _ _ (buckets_end c.args.h bucket _)
