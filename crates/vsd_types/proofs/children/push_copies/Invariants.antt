use Rattle.std.proofs.Common.{◌≡◌, ◌++◌, take}
use Rattle.vsd_types.proofs.children.push_copies.Given as goal

abbrev pub invariant-loop-t : goal.invariant-loop-t
invariant-loop-t l = l.terms ≡ l.initial.terms ++ take l.t-index l.more
