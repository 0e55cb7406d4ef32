-- The names so far are those of the keys before this place.
use Rattle.std.proofs.Common.{◌≡◌, take}
use Rattle.vsd_terms.specs.Keys.{names_in}
use Rattle.vsd_lanes.proofs.variables.Variables.names.Given as goal

abbrev pub invariant-loop-key : goal.invariant-loop-key
invariant-loop-key l = l.names ≡ take l.key-index (names_in l.key-items)
