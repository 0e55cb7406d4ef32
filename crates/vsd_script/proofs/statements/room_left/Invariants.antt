-- The lanes that are left take from the room that is left.
use Rattle.std.proofs.Common.{◌≡◌, drop}
use Rattle.vsd_script.specs.Productions.{room_after}
use Rattle.vsd_script.proofs.statements.room_left.Given as goal

abbrev pub invariant-loop-lane : goal.invariant-loop-lane
invariant-loop-lane l = room_after 200000 l.lanes ≡ room_after l.room (drop l.lane-index l.lanes)
