-- The declarations from this one on are listed.
use Rattle.std.proofs.Common.{◌≡◌, ℕ, ◌+◌, ◌<◌, ◌≤◌, length, get_or, None}
use Rattle.vsd_layers.specs.Layers.{IsNextAt}
use Rattle.vsd_layers.proofs.by_depth.Given as goal

abbrev pub invariant-loop-at : goal.invariant-loop-at
invariant-loop-at l = record {
  tall : (n : ℕ) → n < length l.depths → get_or l.depths n 0 < length l.first.items;
  starts : (depth : ℕ) → depth < length l.first.items → IsNextAt l.depths depth l.at (get_or l.first.items depth None);
  long : length l.next.items ≡ length l.depths;
  follows : (n : ℕ) → l.at ≤ n → n < length l.next.items → IsNextAt l.depths (get_or l.depths n 0) (n + 1) (get_or l.next.items n None);
}
