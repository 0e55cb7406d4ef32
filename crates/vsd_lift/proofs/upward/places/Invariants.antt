-- From the declarations on from this one, each name has its place, and a name without one the number of declarations.
use Rattle.std.proofs.Common.{◌≡◌, ℕ, ◌+◌, ◌<◌, length, get_or, drop}
use Rattle.vsd_ast.specs.Lookup.{place_of}
use Rattle.vsd_lift.proofs.upward.places.Given as goal

abbrev pub invariant-loop-i : goal.invariant-loop-i
invariant-loop-i l = record {
  count : length l.made.items ≡ l.names;
  places : (name : ℕ) → name < length l.made.items → get_or l.made.items name 0 ≡ l.i + place_of (drop l.i l.decls) name;
}
