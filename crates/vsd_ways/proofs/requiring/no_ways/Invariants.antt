-- So many declarations so far.
use Rattle.std.proofs.Common.{◌≡◌, length}
use Rattle.vsd_ways.proofs.requiring.no_ways.Given as goal

abbrev pub invariant-loop : goal.invariant-loop
invariant-loop l = length l.table ≡ l.counter
