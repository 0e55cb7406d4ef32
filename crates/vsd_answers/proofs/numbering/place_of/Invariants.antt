use Rattle.std.proofs.Common.{◌≡◌, ◌+◌, drop}
use Rattle.vsd_answers.specs.Numbering.{place_of_pair}
use Rattle.vsd_answers.proofs.numbering.place_of.Given as goal

abbrev pub invariant-loop-place : goal.invariant-loop-place
invariant-loop-place l = l.place + place_of_pair (drop l.place l.list) l.pair ≡ place_of_pair l.list l.pair
