use Rattle.std.proofs.Common.{refl}
use Rattle.vsd_compat.proofs.variances.settle_all.Goals as goal

pub returns-then-settle_soon-clause-settled : goal.returns-then-settle_soon-clause-settled
returns-then-settle_soon-clause-settled c = c.if-settle_soon.ensures.settled refl
