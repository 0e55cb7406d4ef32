-- The declarations before this one have their rows.
use Rattle.std.proofs.Common.{◌≡◌, ◌<◌, ℕ, length, IsSomeAnd, Some}
use Rattle.std.specs.List.{slice_get}
use Rattle.vsd_ast.specs.declared.declarations.Decl.{Decl}
use Rattle.vsd_overrides.specs.Targets.{AreTargets}
use Rattle.vsd_overrides.proofs.table.targets.Given as goal

abbrev pub invariant-loop-at : goal.invariant-loop-at
invariant-loop-at l = record {
  count : length l.rows ≡ l.at;
  done : (n : ℕ) (x : Decl) → n < l.at → slice_get l.h.decls.now n ≡ Some x → IsSomeAnd (slice_get l.rows n) (AreTargets l.h.decls.now n x);
}
