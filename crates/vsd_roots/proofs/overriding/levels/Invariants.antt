-- The declarations before this level have their levels, and a number other than 0 is a level.
use Rattle.std.proofs.Common.{◌≡◌, ℕ, ◌<◌, length, get_or, Some}
use Rattle.std.specs.List.{slice_get}
use Rattle.vsd_roots.proofs.overriding.levels.Given as goal

abbrev pub invariant-loop-level : goal.invariant-loop-level
invariant-loop-level l = record {
  long : length l.made.items ≡ l.count;
  found : (n : ℕ) → 0 < get_or l.made.items n 0 → slice_get l.chain (get_or l.made.items n 0) ≡ Some n;
  each : (k n : ℕ) → k < l.level → slice_get l.chain k ≡ Some n → get_or l.made.items n 0 ≡ k;
}
