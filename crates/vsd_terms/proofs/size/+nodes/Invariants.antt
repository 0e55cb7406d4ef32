-- The nodes so far, together with those of the arguments to come, are those of the term.
use Rattle.std.proofs.Common.{◌≡◌, ◌+◌, min, map, drop, sum}
use Rattle.vsd_terms.specs.Size.{nodes_of}
use Rattle.vsd_terms.proofs.size.+nodes.Given as goal

abbrev pub invariant-loop-arg : goal.invariant-loop-arg
invariant-loop-arg l =
    min (1 + l.below + sum (map nodes_of (drop l.arg-index l.arg-items))) 4294967295 ≡ min (nodes_of l.t) 4294967295
