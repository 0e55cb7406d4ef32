use Rattle.std.proofs.Common.{◌≡◌, ◌<◌, ℕ, false, length, get_or}
use Rattle.vsd_compat.specs.Matrices.{bits_of, IsSet}
use Rattle.vsd_compat.specs.Moving.{Moves}
use Rattle.vsd_compat.specs.Settling.{IsSound}
use Rattle.vsd_compat.proofs.relation.absorb_interfaces.Given as goal

abbrev pub invariant-loop-interface : goal.invariant-loop-interface
invariant-loop-interface l = record {
  moves : Moves l.initial.matrix l.matrix l.changed;
  sound : IsSound l.closed (bits_of l.initial.matrix) → IsSound l.closed (bits_of l.matrix);
  absorbed : l.changed ≡ false → (k : ℕ) → k < l.interface-index → (u : ℕ) → u < length l.closed.types → IsSet (bits_of l.matrix) (get_or l.interface-items k 0) u → IsSet (bits_of l.matrix) l.t u;
}
