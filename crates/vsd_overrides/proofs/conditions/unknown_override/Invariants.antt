-- The least line so far is that of the overrides so far.
use Rattle.vsd_least.specs.Least.{AtSome, IsLeast, Until}
use Rattle.vsd_overrides.specs.Conditions.{UnknownAt}
use Rattle.vsd_overrides.proofs.conditions.unknown_override.Given as goal

abbrev pub invariant-loop-i : goal.invariant-loop-i
invariant-loop-i l = IsLeast (AtSome l.overrides (Until l.i (UnknownAt l.decls l.place l.decl))) l.found
