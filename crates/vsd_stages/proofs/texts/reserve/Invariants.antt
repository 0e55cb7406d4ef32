use Rattle.std.proofs.Common.{◌≡◌, ℕ, ◌-◌, ◌≤◌, length}
use Rattle.vsd_lines.specs.Lines.{text_at}
use Rattle.vsd_stages.proofs.texts.reserve.Given as goal

abbrev pub invariant-loop-alloc : goal.invariant-loop-alloc
invariant-loop-alloc l = record {
  grows : length l.initial.texts.items ≤ length l.texts.items;
  same : (n : ℕ) → text_at l.texts.items n ≡ text_at l.initial.texts.items n;
}

abbrev pub decreases-loop-alloc : goal.decreases-loop-alloc
decreases-loop-alloc l = l.count - length l.texts.items
