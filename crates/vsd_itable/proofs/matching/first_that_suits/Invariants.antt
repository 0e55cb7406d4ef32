-- None of the interfaces before this place suits.
use Rattle.std.proofs.Common.{ℕ, ◌<◌}
use Rattle.vsd_itable.specs.Places.{SuitsAt}
use Rattle.vsd_itable.proofs.matching.first_that_suits.Given as goal

abbrev pub invariant-loop-place : goal.invariant-loop-place
invariant-loop-place l = (p : ℕ) → p < l.place → SuitsAt l.closed l.interfaces l.wanted p → ⊥
