use Rattle.std.proofs.Common.{◌≡◌, ◌<◌, ℕ, Some}
use Rattle.std.specs.List.{slice_get}
use Rattle.vsd_ast.specs.declared.declarations.Sign.{Sign}
use Rattle.vsd_compat.specs.Matrices.{bits_of}
use Rattle.vsd_compat.specs.Settling.{VariesIn}
use Rattle.vsd_compat.proofs.relation.are_variant.Given as goal

abbrev pub invariant-loop-k : goal.invariant-loop-k
invariant-loop-k l =
    (place : ℕ) (s : Sign) (x y : ℕ) → place < l.k → slice_get l.signs place ≡ Some s → slice_get l.xs place ≡ Some x → slice_get l.ys place ≡ Some y → VariesIn l.closed (bits_of l.matrix) s x y
