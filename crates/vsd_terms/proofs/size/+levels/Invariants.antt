-- The most levels so far, together with those of the arguments to come, are the most levels of an argument.
use Rattle.std.proofs.Common.{◌≡◌, ◌+◌, max, min, map, drop}
use Rattle.vsd_terms.specs.Size.{greatest, levels_of}
use Rattle.vsd_terms.proofs.size.+levels.Given as goal

abbrev pub invariant-loop-arg : goal.invariant-loop-arg
invariant-loop-arg l =
    min (1 + max l.most (greatest (map levels_of (drop l.arg-index l.arg-items)))) 4294967295 ≡ min (levels_of l.t) 4294967295
