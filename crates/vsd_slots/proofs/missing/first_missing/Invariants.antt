-- Each slot of the interfaces before this one has an implementation, and so have those of the marked columns.
use Rattle.std.proofs.Common.{ℕ, ◌<◌, ◌≤◌, None, length}
use Rattle.vsd_slots.specs.Missing.{AreWhole, IsFirstNone}
use Rattle.vsd_slots.specs.Rows.{column_of}
use Rattle.vsd_slots.proofs.missing.first_missing.Given as goal

abbrev pub invariant-loop-place : goal.invariant-loop-place
invariant-loop-place l = record {
  before : (k : ℕ) → k < l.place → IsFirstNone (column_of l.columns l.row k) None;
  whole : AreWhole l.columns l.whole.items;
  room : length l.columns ≤ length l.whole.items;
}
