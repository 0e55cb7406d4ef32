-- None of the numbers before this place is the one that is wanted.
use Rattle.std.proofs.Common.{◌≡◌, ℕ, ◌<◌, get_or}
use Rattle.vsd_itable.proofs.matching.place_of.Given as goal

abbrev pub invariant-loop-place : goal.invariant-loop-place
invariant-loop-place l = (p : ℕ) → p < l.place → get_or l.numbers p 0 ≡ l.wanted → ⊥
