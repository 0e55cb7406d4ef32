-- The arguments so far are known.
use Rattle.std.proofs.Common.{◌≡◌, map, take, Some}
use Rattle.vsd_ways.proofs.binding.all_known.Given as goal

abbrev pub invariant-loop-arg : goal.invariant-loop-arg
invariant-loop-arg l = l.known.items ≡ map Some (take l.arg-index l.args)
