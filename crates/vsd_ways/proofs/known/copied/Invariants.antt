-- What is copied so far.
use Rattle.std.proofs.Common.{◌≡◌, take}
use Rattle.vsd_ways.proofs.known.copied.Given as goal

abbrev pub invariant-loop-wanted : goal.invariant-loop-wanted
invariant-loop-wanted l = l.made.items ≡ take l.wanted-index l.known
