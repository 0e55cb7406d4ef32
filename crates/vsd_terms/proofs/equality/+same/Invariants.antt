-- The terms before this place are equal, one by one.
use Rattle.std.proofs.Common.{◌≡◌, length, take}
use Rattle.vsd_terms.proofs.equality.+same.Given as goal

abbrev pub invariant-same_all-loop-i : goal.invariant-same_all-loop-i
invariant-same_all-loop-i l = (length l.xs ≡ length l.ys) × (take l.i l.xs ≡ take l.i l.ys)
