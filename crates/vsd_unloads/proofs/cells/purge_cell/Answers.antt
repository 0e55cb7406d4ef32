use Rattle.vsd_table.specs.Seating.{view_of}
use Rattle.vsd_rows.proofs.Leaving.{goes_on}
use Rattle.vsd_unloads.proofs.PartsMade.{cell_purged, cell_passed}
use Rattle.vsd_unloads.proofs.Leaving.{cell_goes}
use Rattle.vsd_unloads.proofs.cells.purge_cell.Goals as goal

pub returns-in-Dispatch-clause-trail : goal.returns-in-Dispatch-clause-trail
returns-in-Dispatch-clause-trail c = cell_purged c.args.h c.args.site c.in-Dispatch.row c.read.result _ _ _ c.in-Dispatch.is c.read.ensures.trail c.purge_dispatch.ensures.trail

pub returns-in-Dispatch-clause-goes : goal.returns-in-Dispatch-clause-goes
returns-in-Dispatch-clause-goes c =
    let old = view_of c.args.hand.now.seated in
    let one = view_of c.read.new.hand.seated in
    goes_on old one (view_of c.purge_dispatch.new.hand.seated) (cell_goes old one c.args.site c.read.result c.read.ensures.step.view) c.purge_dispatch.ensures.goes

pub returns-in_default-clause-trail : goal.returns-in_default-clause-trail
returns-in_default-clause-trail c = cell_passed c.args.h c.args.site c.read.result _ _ c.in_default.not-Dispatch c.read.ensures.trail

pub returns-in_default-clause-goes : goal.returns-in_default-clause-goes
returns-in_default-clause-goes c = cell_goes (view_of c.args.hand.now.seated) (view_of c.read.new.hand.seated) c.args.site c.read.result c.read.ensures.step.view
