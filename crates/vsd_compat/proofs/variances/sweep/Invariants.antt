use Rattle.std.proofs.Common.{◌≡◌, ◌<◌, ℕ, false}
use Rattle.vsd_compat.specs.Matrices.{bits_of}
use Rattle.vsd_compat.specs.Moving.{Moves}
use Rattle.vsd_compat.specs.Settling.{IsSettled, IsSound, turned}
use Rattle.vsd_compat.proofs.variances.sweep.Given as goal

abbrev pub invariant-loop-k : goal.invariant-loop-k
invariant-loop-k l = record {
  moves : Moves l.initial.matrix l.matrix l.changed;
  sound : IsSound l.closed (bits_of l.initial.matrix) → IsSound l.closed (bits_of l.matrix);
  settled : l.changed ≡ false → (j : ℕ) → j < l.k → IsSettled l.closed (bits_of l.matrix) (turned l.count l.forward j);
}
