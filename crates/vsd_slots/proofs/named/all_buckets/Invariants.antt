-- The buckets of the names of the methods of the declarations before this one.
use Rattle.std.proofs.Common.{◌≡◌, ℕ, ◌<◌, [], Some, length, get_or}
use Rattle.std.specs.List.{slice_get}
use Rattle.vsd_ast.specs.declared.declarations.Decl.{Decl}
use Rattle.vsd_slots.specs.Named.{AreBuckets}
use Rattle.vsd_slots.proofs.named.all_buckets.Given as goal

abbrev pub invariant-loop-place : goal.invariant-loop-place
invariant-loop-place l = record {
  count : length l.found ≡ l.place;
  each : (k : ℕ) (x : Decl) → k < l.place → slice_get l.decls k ≡ Some x → AreBuckets x.methods (get_or l.found k []);
}
