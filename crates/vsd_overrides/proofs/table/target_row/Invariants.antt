-- The overrides before this one have their entries.
use Rattle.std.proofs.Common.{◌≡◌, ◌<◌, ℕ, length, IsSomeAnd, Some}
use Rattle.std.specs.List.{slice_get}
use Rattle.vsd_ast.specs.declared.declarations.Override.{Override}
use Rattle.vsd_overrides.specs.Targets.{IsTarget}
use Rattle.vsd_overrides.proofs.table.target_row.Given as goal

abbrev pub invariant-loop-i : goal.invariant-loop-i
invariant-loop-i l = record {
  count : length l.row ≡ l.i;
  done : (j : ℕ) (o : Override) → j < l.i → slice_get l.overrides j ≡ Some o → IsSomeAnd (slice_get l.row j) (IsTarget l.h.decls.now l.at l.decl o);
}
