-- It is none of those before this place.
use Rattle.std.proofs.Common.{◌≡◌, ◌++◌, take, drop}
use Rattle.vsd_lanes.specs.Meaning as spec
use Rattle.vsd_lanes.proofs.meaning.give_up.Given as goal

abbrev pub invariant-loop-place : goal.invariant-loop-place
invariant-loop-place l = (l.live ≡ l.fn.live) × (spec.without l.fn.live l.variable ≡ take l.place l.fn.live ++ spec.without (drop l.place l.fn.live) l.variable)
