use Rattle.std.proofs.Common.{◌≡◌, ◌<◌, ℕ, IfSome, length}
use Rattle.vsd_compat.specs.Matrices.{bits_of, IsSet}
use Rattle.vsd_compat.specs.Settling.{IsSound}
use Rattle.vsd_compat.proofs.variances.start.Given as goal

abbrev pub invariant-loop-t : goal.invariant-loop-t
invariant-loop-t l = record {
  count : l.matrix.count ≡ length l.closed.types;
  sound : IsSound l.closed (bits_of l.matrix);
  own : (k : ℕ) → k < l.t → IsSet (bits_of l.matrix) k k;
  object : (k : ℕ) → k < l.t → IfSome l.object (λ o. IsSet (bits_of l.matrix) k o);
}
