use Rattle.std.proofs.Common.{◌≡◌, ◌+◌, ◌<◌, ℕ}
use Rattle.vsd_table.specs.Seating.{key_of, view_of, Belongs}
use Rattle.vsd_trails.specs.RowTrails.{passing}
use Rattle.vsd_rows.specs.Retired.{retired_row}
use Rattle.vsd_rows.specs.Makes.{Leads}
use Rattle.vsd_rows.specs.Sweeps.{IsFirst, IsPassed}
use Rattle.vsd_rows.proofs.retiring.blocker.Given as goal

-- the callers before were passed, and the rest of the sweep is to come
abbrev pub invariant-loop-caller : goal.invariant-loop-caller
invariant-loop-caller l =
    let k = key_of l.table in
    let v = view_of l.initial.seated in
    let w = view_of l.seated in
    let x = retired_row l.oldest in
    record {
      seat : Belongs l.table l.seated;
      first : IsFirst w l.oldest;
      leads : (rest : ℕ) → l.caller + rest ≡ k.sizes.callers → Leads l.initial.seated (passing x k.sizes.callers 0) l.seated (passing x rest l.caller);
      changes : IsPassed v w;
      passed : 0 < l.caller → w.rows.passed ≡ l.caller;
    }
