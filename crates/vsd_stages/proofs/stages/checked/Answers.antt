use Rattle.std.proofs.Common.{Err, sym, subst}
use Rattle.vsd_stages.specs.Settling.{Settles}
use Rattle.vsd_stages.specs.Stages.{Checks, Scripts}
use Rattle.vsd_stages.proofs.Checking.{check_gives, check_stops}
use Rattle.vsd_stages.proofs.stages.checked.Goals as goal

pub returns-in-Ok : goal.returns-in-Ok
returns-in-Ok c = check_gives c.args.text.now c.args.tokens.now c.args.decls c.in-Ok.ensures.lawful c.scripted.result
    (subst (λ d. Settles (Scripts c.args.text.now c.args.tokens.now d) c.scripted.result) c.in-Ok.ensures.given c.scripted.ensures)

pub returns-in-Err : goal.returns-in-Err
returns-in-Err c = subst (λ stopped. Settles (Checks c.args.text.now c.args.tokens.now c.args.decls) (Err stopped)) (sym c.stopped_check.ensures)
    (check_stops c.args.text.now c.args.tokens.now c.args.decls c.in-Err.error c.in-Err.ensures.refused)
