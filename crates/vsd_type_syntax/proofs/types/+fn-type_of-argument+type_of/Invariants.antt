use Rattle.std.proofs.Common.{◌+◌, ◌*◌}
use Rattle.vsd_type_syntax.proofs.types.+fn-type_of-argument+type_of.Given as goal

abbrev pub decreases-argument : goal.decreases-argument
decreases-argument g l = 2 * l.below + 2

abbrev pub decreases-type_of : goal.decreases-type_of
decreases-type_of g l = 2 * l.room + 1
