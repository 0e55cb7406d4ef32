use Rattle.std.proofs.Common.{sym, subst}
use Rattle.vsd_compat.specs.Improving.{Improves}
use Rattle.vsd_compat.proofs.Improving.{Improves-twice}
use Rattle.vsd_compat.proofs.waking.vary_by.Goals as goal
use Rattle.vsd_compat.proofs.waking.vary_by.Goals.{then-eq+in_ok-ask, else-eq+in_ok-ask-2}

pub returns-in_err-ask : goal.returns-in_err-ask
returns-in_err-ask c = Improves-twice _ _ _ _ c.loop-u.invariant c.ask.ensures

pub returns-in_err-ask-2 : goal.returns-in_err-ask-2
returns-in_err-ask-2 c = Improves-twice _ _ _ _ c.loop-u.invariant c.ask-else-eq.ensures

pub loop-u-preserved : goal.loop-u-preserved
loop-u-preserved c =
    let Kept = Improves c.args.closed.now c.args.matrix.now in
    elim c.if-eq.branch [
      | then-eq+in_ok-ask w ↦ subst Kept (sym w.matrix-is) (Improves-twice _ _ _ _ c.loop-u.invariant w.ask.ensures)
      | else-eq+in_ok-ask-2 w ↦ subst Kept (sym w.matrix-is) (Improves-twice _ _ _ _ c.loop-u.invariant w.ask-else-eq.ensures)
    ]
