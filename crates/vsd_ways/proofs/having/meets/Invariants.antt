-- The arguments before this place are those that are known there.
use Rattle.std.proofs.Common.{◌≡◌, length, map}
use Rattle.vsd_lift.specs.Chain.{envs_of}
use Rattle.vsd_lift.specs.Lift.{lift}
use Rattle.vsd_ways.specs.Known.{MeetsBefore}
use Rattle.vsd_ways.proofs.having.meets.Given as goal

abbrev pub invariant-loop-i : goal.invariant-loop-i
invariant-loop-i l = (length l.args ≡ length l.known) × MeetsBefore l.i l.known (map (lift (envs_of l.decls l.chain) l.level) l.args)
