-- So many rows so far, none of them made.
use Rattle.std.proofs.Common.{◌≡◌, ℕ, ◌<◌, [], length, get_or}
use Rattle.vsd_slots.proofs.rows.no_rows.Given as goal

abbrev pub invariant-loop : goal.invariant-loop
invariant-loop l = record {
  count : length l.numbers ≡ l.counter;
  none : (t : ℕ) → t < l.counter → get_or l.numbers t [] ≡ [];
}
