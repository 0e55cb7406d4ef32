use Rattle.vsd_compat.proofs.Improving.{Improves-twice}
use Rattle.vsd_compat.proofs.waking.hurry.Goals as goal

pub returns-in_err-wake : goal.returns-in_err-wake
returns-in_err-wake c = Improves-twice _ _ _ _ c.loop-turn.invariant c.wake.ensures

pub loop-turn-preserved : goal.loop-turn-preserved
loop-turn-preserved c = Improves-twice _ _ _ _ c.loop-turn.invariant c.wake.ensures
