use Rattle.std.proofs.Common.{◌≡◌, ◌+◌, ℕ}
use Rattle.vsd_table.specs.Seating.{key_of, view_of, Belongs}
use Rattle.vsd_trails.specs.UnloadTrails.{purging_cells}
use Rattle.vsd_rows.specs.Makes.{Leads}
use Rattle.vsd_rows.specs.Leaving.{Goes}
use Rattle.vsd_unloads.proofs.cells.purge_cells.Given as goal

-- the cells before were purged, and the others are to come
abbrev pub invariant-loop-site : goal.invariant-loop-site
invariant-loop-site l =
    let k = key_of l.table in
    record {
      seat : Belongs l.table l.hand.seated;
      leads : (rest : ℕ) → l.site + rest ≡ k.sizes.sites → Leads l.initial.hand.seated (purging_cells l.h k.sizes.sites 0) l.hand.seated (purging_cells l.h rest l.site);
      goes : Goes (view_of l.initial.hand.seated) (view_of l.hand.seated);
    }
