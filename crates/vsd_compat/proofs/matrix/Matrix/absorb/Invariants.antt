use Rattle.std.proofs.Common.{◌≡◌, ℕ, ◌+◌, ◌<◌, ◌⊎◌}
use Rattle.vsd_compat.specs.Moving.{Moves}
use Rattle.vsd_compat.proofs.Bits.{Bit}
use Rattle.vsd_compat.proofs.matrix.Matrix.absorb.Given as goal

abbrev pub invariant-loop-k : goal.invariant-loop-k
invariant-loop-k l = record {
  moves : Moves l.initial.self l.self l.changed;
  kept : (q b : ℕ) → Bit l.initial.self.words.items q b → Bit l.self.words.items q b;
  added : (j b : ℕ) → j < l.k → Bit l.initial.self.words.items (l.from + j) b → Bit l.self.words.items (l.to + j) b;
  only : (q b : ℕ) → Bit l.self.words.items q b → Bit l.initial.self.words.items q b ⊎ ((j : ℕ) × (j < l.width) × (q ≡ l.to + j) × Bit l.initial.self.words.items (l.from + j) b);
}
