use Rattle.std.proofs.Common.{Err, sym, subst}
use Rattle.vsd_check.specs.Checked.{decls_of}
use Rattle.vsd_stages.specs.Settling.{Settles}
use Rattle.vsd_stages.specs.Stages.{Scripts}
use Rattle.vsd_stages.proofs.Naming.{closed_roots, name_slots}
use Rattle.vsd_stages.proofs.Scripting.{script_gives, script_stops}
use Rattle.vsd_stages.proofs.stages.scripted.Goals as goal

pub returns-in-Ok : goal.returns-in-Ok
returns-in-Ok c =
    script_gives c.args.text.now c.args.tokens.now (decls_of c.args.checked) c.in-Ok.script (rw c.decls.ensures.decls at c.in-Ok.ensures.exact)
    (rw c.decls.ensures.decls at c.in-Ok.ensures.found) (rw c.decls.ensures.decls at c.in-Ok.ensures.only) c.closed.result c.closed.ensures

pub returns-in-Err : goal.returns-in-Err
returns-in-Err c = subst (λ stopped. Settles (Scripts c.args.text.now c.args.tokens.now (decls_of c.args.checked)) (Err stopped)) (sym c.stopped_script.ensures)
    (script_stops c.args.text.now c.args.tokens.now (decls_of c.args.checked) c.in-Err.error (rw c.decls.ensures.decls at c.in-Err.ensures.exact)
    (rw c.decls.ensures.decls at c.in-Err.ensures.only))

pub closed-requires-clause-roots : goal.closed-requires-clause-roots
closed-requires-clause-roots c = closed_roots (decls_of c.args.checked).list c.in-Ok.script.roots (rw c.decls.ensures.decls at c.in-Ok.ensures.roots)

pub closed-requires-clause-slots : goal.closed-requires-clause-slots
closed-requires-clause-slots c = name_slots (decls_of c.args.checked).list c.in-Ok.script (rw c.decls.ensures.decls at c.in-Ok.ensures.slots)
