-- It is none of those before this place.
use Rattle.std.proofs.Common.{◌≡◌, drop}
use Rattle.vsd_lanes.specs.Meaning as spec
use Rattle.vsd_lanes.proofs.meaning.find.Given as goal

abbrev pub invariant-loop-one : goal.invariant-loop-one
invariant-loop-one l = spec.find l.live l.variable ≡ spec.find (drop l.one-index l.live) l.variable
