-- The methods from this one on are the latest of their names, and have their links.
use Rattle.std.proofs.Common.{◌≡◌, ◌+◌, ◌-◌, ◌*◌, ◌≤◌, length, IsSomeAnd}
use Rattle.std.specs.HashMap.{get}
use Rattle.std.specs.List.{slice_get}
use Rattle.vsd_ast.specs.declared.declarations.Method.{Method}
use Rattle.vsd_roots.specs.Methods.{IsMethod}
use Rattle.vsd_roots.specs.Order.{rank, same_name, AreLatest, IsLink}
use Rattle.vsd_roots.specs.declared.place.Place.{Place}
use Rattle.vsd_roots.proofs.links.link_row.Given as goal

abbrev pub invariant-loop-method : goal.invariant-loop-method
invariant-loop-method l = record {
  count : length l.row ≡ length l.methods;
  latest : AreLatest l.h.decls.now l.h.depths.now (rank l.h.depths.now l.at * 256 + (256 - l.method)) (get same_name l.latest);
  done : (p : Place) (m : Method) → p.decl ≡ l.at → l.method ≤ p.method → IsMethod l.h.decls.now p m → IsSomeAnd (slice_get l.row p.method) (IsLink l.h.decls.now l.h.depths.now p);
}
