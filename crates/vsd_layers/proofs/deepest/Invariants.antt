-- No depth so far is greater than the most.
use Rattle.std.proofs.Common.{ℕ, ◌<◌, ◌≤◌, get_or}
use Rattle.vsd_layers.proofs.deepest.Given as goal

abbrev pub invariant-loop-depth : goal.invariant-loop-depth
invariant-loop-depth l = (i : ℕ) → i < l.depth-index → get_or l.depths i 0 ≤ l.most
