use Rattle.std.proofs.Common.{◌+◌, ◌*◌}
use Rattle.vsd_lanes.proofs.repeats.+nested.Given as goal

abbrev pub decreases-deeper : goal.decreases-deeper
decreases-deeper l = 3 * l.room + 1

abbrev pub decreases-deeper-inner : goal.decreases-deeper-inner
decreases-deeper-inner l = 3 * l.below + 3

abbrev pub decreases-op : goal.decreases-op
decreases-op l = 3 * l.room + 2
