use Rattle.std.proofs.Common.{◌≡◌, ◌<◌, ℕ, false}
use Rattle.vsd_compat.specs.Matrices.{bits_of}
use Rattle.vsd_compat.specs.Moving.{Moves}
use Rattle.vsd_compat.specs.Settling.{HasVariant, IsSound}
use Rattle.vsd_compat.proofs.relation.relate_all.Given as goal

abbrev pub invariant-loop-u : goal.invariant-loop-u
invariant-loop-u l = record {
  moves : Moves l.initial.matrix l.matrix l.changed;
  sound : IsSound l.closed (bits_of l.initial.matrix) → IsSound l.closed (bits_of l.matrix);
  related : l.changed ≡ false → (k : ℕ) → k < l.u → HasVariant l.closed (bits_of l.matrix) l.t k;
}
