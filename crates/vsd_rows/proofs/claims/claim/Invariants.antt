use Rattle.std.proofs.Common.{◌≡◌, ◌+◌, ℕ, min}
use Rattle.vsd_table.specs.Seating.{key_of, view_of, Belongs}
use Rattle.vsd_trails.specs.RowTrails.{claiming_from}
use Rattle.vsd_rows.specs.Makes.{Leads}
use Rattle.vsd_rows.specs.Hands.{with_rows}
use Rattle.vsd_rows.proofs.claims.claim.Given as goal

-- the rows before were tried, and the rest of the search is to come
abbrev pub invariant-loop-tried : goal.invariant-loop-tried
invariant-loop-tried l =
    let k = key_of l.table in
    let v = view_of l.initial.hand.seated in
    let w = view_of l.hand.seated in
    record {
      seat : Belongs l.table l.hand.seated;
      leads : (rest : ℕ) → l._tried + rest ≡ min 8 k.sizes.rows → Leads l.initial.hand.seated (claiming_from k (min 8 k.sizes.rows) l.initial.hand.cursor) l.hand.seated (claiming_from k rest l.hand.cursor);
      moved : w ≡ with_rows v w (record v.rows { cursor = w.rows.cursor });
    }
