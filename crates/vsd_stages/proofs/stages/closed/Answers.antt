use Rattle.std.proofs.Common.{Err, sym, subst}
use Rattle.vsd_check.specs.Checked.{decls_of}
use Rattle.vsd_stages.specs.Settling.{Settles}
use Rattle.vsd_stages.specs.Stages.{Builds, Closes}
use Rattle.vsd_types.specs.Closing.{plain_types}
use Rattle.vsd_stages.proofs.Naming.{listed_roots}
use Rattle.vsd_stages.proofs.Closing.{close_gives, close_stops}
use Rattle.vsd_stages.proofs.stages.closed.Goals as goal

pub returns-in-Ok : goal.returns-in-Ok
returns-in-Ok c = close_gives (decls_of c.args.checked) c.args.script c.in-Ok.closed.types (rw c.as_slice.ensures at c.in-Ok.ensures.ok) c.built.result
    (subst (λ d. Settles (Builds d c.args.script c.in-Ok.closed.types) c.built.result) c.in-Ok.ensures.over c.built.ensures)

pub returns-in-Err : goal.returns-in-Err
returns-in-Err c = subst (λ stopped. Settles (Closes (decls_of c.args.checked) c.args.script) (Err stopped)) (sym c.stopped_close.ensures)
    (close_stops (decls_of c.args.checked) c.args.script c.in-Err.error (rw c.as_slice.ensures at c.in-Err.ensures.refused))

pub built-requires-clause-listed : goal.built-requires-clause-listed
built-requires-clause-listed c =
    listed_roots c.in-Ok.closed.types (plain_types c.in-Ok.closed.decls.list) c.args.script.roots (rw c.as_slice.ensures at c.in-Ok.ensures.law.starts)
