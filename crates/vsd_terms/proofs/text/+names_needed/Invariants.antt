-- The most so far and the most of the arguments to come are the most of the term.
use Rattle.std.proofs.Common.{◌≡◌, max, map, drop}
use Rattle.vsd_terms.specs.Size.{greatest}
use Rattle.vsd_terms.specs.Text.{names_of}
use Rattle.vsd_terms.proofs.text.+names_needed.Given as goal

abbrev pub invariant-loop-arg : goal.invariant-loop-arg
invariant-loop-arg l = max l.most (greatest (map names_of (drop l.arg-index l.arg-items))) ≡ names_of l.t
