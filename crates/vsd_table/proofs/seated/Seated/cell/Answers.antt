use Rattle.std.proofs.Common.{refl}
use Rattle.vsd_table.proofs.CellWords.{may_load_cell}
use Rattle.vsd_table.proofs.Seats.{becomes}
use Rattle.vsd_table.proofs.seated.Seated.cell.Goals as goal

pub load-found-requires-clause-may : goal.load-found-requires-clause-may
load-found-requires-clause-may c = may_load_cell c.args.table.now c.args.self.now c.requires.seat c.args.site c.cell_index-index.result c.requires.site c.cell_index-index.ensures.index

pub unpacked-requires : goal.unpacked-requires
unpacked-requires c = (c.load-found.ensures.learns c.args.site c.cell_index-index.ensures.index refl refl tt).packs

pub returns-clause-step : goal.returns-clause-step
returns-clause-step c = becomes c.load-found.ensures.stays
    ((c.load-found.ensures.learns c.args.site c.cell_index-index.ensures.index refl refl tt).view c.unpacked.result c.unpacked.ensures)

pub returns-clause-in_table : goal.returns-clause-in_table
returns-clause-in_table c = (c.load-found.ensures.learns c.args.site c.cell_index-index.ensures.index refl refl tt).in_table c.unpacked.result c.unpacked.ensures
