use Rattle.std.proofs.Common.{◌*◌, ◌-◌, ◌^◌, sum}
use Rattle.vsd_compat.specs.Improving.{Improves}
use Rattle.vsd_compat.proofs.variances.settle_late.Given as goal

abbrev pub invariant-sweeps : goal.invariant-sweeps
invariant-sweeps l = Improves l.closed l.initial.matrix l.matrix

abbrev pub decreases-sweeps : goal.decreases-sweeps
decreases-sweeps l = l.initial.matrix.count * l.initial.matrix.width * 2 ^ 64 - sum l.matrix.words.items
