use Rattle.std.proofs.Common.{Err, sym, subst}
use Rattle.vsd_stages.specs.Settling.{Settles}
use Rattle.vsd_stages.specs.Stages.{Declares}
use Rattle.vsd_stages.proofs.Declaring.{decl_gives, decl_stops}
use Rattle.vsd_stages.proofs.stages.declared.Goals as goal

pub returns-in-Ok : goal.returns-in-Ok
returns-in-Ok c =
    decl_gives c.args.text.now c.args.tokens.now c.in-Ok.decls c.in-Ok.ensures.found c.in-Ok.ensures.whenever c.in-Ok.ensures.only c.checked.result c.checked.ensures

pub returns-in-Err : goal.returns-in-Err
returns-in-Err c = subst (λ stopped. Settles (Declares c.args.text.now c.args.tokens.now) (Err stopped)) (sym c.stopped_decl.ensures)
    (decl_stops c.args.text.now c.args.tokens.now c.in-Err.error c.in-Err.ensures.refused c.in-Err.ensures.whenever c.in-Err.ensures.only)
