use Rattle.std.proofs.Common.{refl}
use Rattle.vsd_compat.proofs.Improving.{Improves-moves, Improves-twice}
use Rattle.vsd_compat.proofs.variances.settle_soon.Goals as goal

pub returns-then-not-sweep-clause-improves : goal.returns-then-not-sweep-clause-improves
returns-then-not-sweep-clause-improves c =
    Improves-twice _ _ _ _ c.loop-turn.invariant (Improves-twice _ _ _ _ c.climb_all.ensures (Improves-moves _ _ _ _ c.if-not-sweep.ensures.moves c.if-not-sweep.ensures.sound))

pub returns-then-not-sweep-clause-settled : goal.returns-then-not-sweep-clause-settled
returns-then-not-sweep-clause-settled c = λ _. c.if-not-sweep.ensures.settled refl

pub loop-turn-preserved : goal.loop-turn-preserved
loop-turn-preserved c =
    Improves-twice _ _ _ _ c.loop-turn.invariant (Improves-twice _ _ _ _ c.climb_all.ensures (Improves-moves _ _ _ _ c.if-not-sweep.ensures.moves c.if-not-sweep.ensures.sound))
