-- So many rows so far.
use Rattle.std.proofs.Common.{◌≡◌, length}
use Rattle.vsd_interfaces.proofs.tables.empty_rows.Given as goal

abbrev pub invariant-loop : goal.invariant-loop
invariant-loop l = length l.rows ≡ l.counter
