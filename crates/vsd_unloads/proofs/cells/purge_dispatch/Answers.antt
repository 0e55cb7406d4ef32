use Rattle.vsd_table.specs.Seating.{view_of}
use Rattle.vsd_rows.proofs.Makes.{answers}
use Rattle.vsd_rows.proofs.Leaving.{goes_on}
use Rattle.vsd_unloads.proofs.PartsMade.{dispatch_taken, dispatch_left}
use Rattle.vsd_unloads.proofs.cells.purge_dispatch.Goals as goal

pub returns-then-is_due-clause-trail : goal.returns-then-is_due-clause-trail
returns-then-is_due-clause-trail c = dispatch_taken c.args.h c.args.site c.args.row _ _ _ (answers c.if-is_due.true c.is_due.ensures.trail) c.take_from_cell.ensures.trail

pub returns-then-is_due-clause-goes : goal.returns-then-is_due-clause-goes
returns-then-is_due-clause-goes c =
    goes_on (view_of c.args.hand.now.seated) (view_of c.is_due.new.hand.seated) (view_of c.take_from_cell.new.hand.seated) c.is_due.ensures.goes c.take_from_cell.ensures.goes

pub returns-else-is_due-clause-trail : goal.returns-else-is_due-clause-trail
returns-else-is_due-clause-trail c = dispatch_left c.args.h c.args.site c.args.row _ _ (answers c.if-is_due.false c.is_due.ensures.trail)
