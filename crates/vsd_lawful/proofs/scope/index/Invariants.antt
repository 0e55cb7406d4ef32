-- The table has the places of the declarations from this place on.
use Rattle.std.proofs.Common.{◌≡◌, ℕ, length, drop, slice_index_or, unwrap_or}
use Rattle.vsd_lawful.specs.Index.{place_from}
use Rattle.vsd_lawful.proofs.scope.index.Given as goal

abbrev pub invariant-loop-place : goal.invariant-loop-place
invariant-loop-place l = record {
  long : length l.places.items ≡ length l.decls.names;
  placed : (name : ℕ) → slice_index_or l.places.items name (length l.list) ≡ unwrap_or (place_from l.place (drop l.place l.list) name) (length l.list);
}
