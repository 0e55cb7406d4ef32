use Rattle.std.proofs.Common.{◌≡◌, ◌+◌, ℕ}
use Rattle.vsd_table.specs.Seating.{key_of, view_of, Belongs}
use Rattle.vsd_trails.specs.UnloadTrails.{purging_buckets}
use Rattle.vsd_rows.specs.Makes.{Leads}
use Rattle.vsd_rows.specs.Leaving.{Goes}
use Rattle.vsd_unloads.proofs.buckets.purge_buckets.Given as goal

-- the buckets before were purged, and the others are to come
abbrev pub invariant-loop-bucket : goal.invariant-loop-bucket
invariant-loop-bucket l =
    let k = key_of l.table in
    record {
      seat : Belongs l.table l.hand.seated;
      leads : (rest : ℕ) → l.bucket + rest ≡ k.sizes.buckets → Leads l.initial.hand.seated (purging_buckets l.h k.sizes.buckets 0) l.hand.seated (purging_buckets l.h rest l.bucket);
      goes : Goes (view_of l.initial.hand.seated) (view_of l.hand.seated);
    }
