use Rattle.std.proofs.Common.{Bool, ◌&&◌, sym, ◌∙◌, ap}
use Rattle.vsd_table.specs.Seating.{view_of}
use Rattle.vsd_trails.specs.Words.{same_handle}
use Rattle.vsd_trails.proofs.Loads.{and_both}
use Rattle.vsd_rows.proofs.Makes.{answers}
use Rattle.vsd_unloads.proofs.PartsMade.{checks}
use Rattle.vsd_unloads.proofs.Leaving.{handle_goes}
use Rattle.vsd_unloads.proofs.due.is_due.Goals as goal

pub returns-clause-trail : goal.returns-clause-trail
returns-clause-trail c =
    let g = c.row_handle-g.result in
    answers (sym (c.both.ensures ∙ ap (λ (room : Bool). same_handle g c.args.h && room) c.room-has_room.ensures.room)) (checks c.args.h c.args.row _ _ g c.row_handle-g.ensures.trail)

pub returns-clause-room : goal.returns-clause-room
returns-clause-room c = λ due. c.room-has_room.ensures.fits (and_both _ _ (sym c.both.ensures ∙ due)).1

pub returns-clause-goes : goal.returns-clause-goes
returns-clause-goes c = handle_goes (view_of c.args.hand.now.seated) (view_of c.row_handle-g.new.hand.seated) c.args.row c.row_handle-g.result c.row_handle-g.ensures.step.view
