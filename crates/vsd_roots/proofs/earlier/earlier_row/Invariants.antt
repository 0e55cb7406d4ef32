-- The methods from this one on have their entries.
use Rattle.std.proofs.Common.{◌≡◌, ◌≤◌, length, IsSomeAnd}
use Rattle.std.specs.List.{slice_get}
use Rattle.vsd_ast.specs.declared.declarations.Method.{Method}
use Rattle.vsd_roots.specs.Methods.{IsMethod}
use Rattle.vsd_roots.specs.Order.{IsEarlier}
use Rattle.vsd_roots.specs.declared.place.Place.{Place}
use Rattle.vsd_roots.proofs.earlier.earlier_row.Given as goal

abbrev pub invariant-loop-method : goal.invariant-loop-method
invariant-loop-method l = record {
  count : length l.row ≡ l.count;
  done : (p : Place) (m : Method) → p.decl ≡ l.at → l.method ≤ p.method → IsMethod l.h.decls.now p m → IsSomeAnd (slice_get l.row p.method) (IsEarlier l.h.decls.now l.h.depths.now p);
}
