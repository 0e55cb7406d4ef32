-- The least line so far is that of the overrides so far, and the keys seen are theirs.
use Rattle.std.specs.HashSet.{contains}
use Rattle.vsd_least.specs.Least.{AtSome, IsLeast, Until}
use Rattle.vsd_overrides.specs.Conditions.{RepeatedAt}
use Rattle.vsd_overrides.proofs.KeyLemmas.{AreSeen, key_eq}
use Rattle.vsd_overrides.proofs.conditions.repeated_override.Given as goal

abbrev pub invariant-loop-i : goal.invariant-loop-i
invariant-loop-i l = record {
  found : IsLeast (AtSome l.overrides (Until l.i (RepeatedAt l.decls l.place l.decl))) l.found;
  seen : AreSeen l.decls l.place l.decl l.i (contains key_eq l.seen);
}
