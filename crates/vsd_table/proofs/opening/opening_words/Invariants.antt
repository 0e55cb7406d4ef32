use Rattle.std.proofs.Common.{◌≡◌, ◌++◌, replicate, map, take}
use Rattle.vsd_rule.specs.Opening.{host_packing}
use Rattle.vsd_table.proofs.opening.opening_words.Given as goal

abbrev pub invariant-loop-number : goal.invariant-loop-number
invariant-loop-number l = l.words.items ≡ replicate l.offsets.handles 0 ++ map host_packing (take l.number-index l.hosts)
