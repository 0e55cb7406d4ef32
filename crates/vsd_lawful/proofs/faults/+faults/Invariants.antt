-- What is found and what the terms to come show is what all show.
use Rattle.std.proofs.Common.{◌≡◌, ◌||◌, map, drop}
use Rattle.vsd_lawful.specs.Tests.{any_named, any_true, is_unknown, is_miscounted}
use Rattle.vsd_lawful.proofs.faults.+faults.Given as goal

abbrev pub invariant-of_terms-loop-i : goal.invariant-of_terms-loop-i
invariant-of_terms-loop-i l = record {
  unknown : (l.faults.unknown || any_true (map (any_named (is_unknown l.scope.list.now)) (drop l.i l.ts))) ≡ any_true (map (any_named (is_unknown l.scope.list.now)) l.ts);
  arity : (l.faults.arity || any_true (map (any_named (is_miscounted l.scope.list.now)) (drop l.i l.ts))) ≡ any_true (map (any_named (is_miscounted l.scope.list.now)) l.ts);
}
