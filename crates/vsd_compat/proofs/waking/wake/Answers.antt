use Rattle.vsd_compat.proofs.Improving.{Improves-twice}
use Rattle.vsd_compat.proofs.waking.wake.Goals as goal

pub returns-in_err-vary : goal.returns-in_err-vary
returns-in_err-vary c =
    Improves-twice _ _ _ _ c.loop-below.invariant (Improves-twice _ _ _ _ c.loop-user.invariant c.vary.ensures)
