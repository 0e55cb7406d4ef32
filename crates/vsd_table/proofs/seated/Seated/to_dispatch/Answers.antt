use Rattle.std.proofs.Common.{refl}
use Rattle.vsd_table.specs.CellKinds.{SiteAndRow}
use Rattle.vsd_table.proofs.CellWords.{may_to_dispatch}
use Rattle.vsd_table.proofs.Seats.{becomes}
use Rattle.vsd_table.proofs.seated.Seated.to_dispatch.Goals as goal

pub exchange-requires-clause-may : goal.exchange-requires-clause-may
exchange-requires-clause-may c = may_to_dispatch c.args.table.now c.args.self.now c.requires.seat c.args.site c.cell_index-index.result c.requires.site c.cell_index-index.ensures.index c.args.row 0 c.packed_dispatch-new.result c.requires.row refl c.packed_dispatch-new.ensures c.requires.filled

pub unpacked-found-requires : goal.unpacked-found-requires
unpacked-found-requires c =
    let x : SiteAndRow = record { site = c.args.site; row = c.args.row } in
    (c.exchange.ensures.learns x c.cell_index-index.ensures.index refl c.packed_dispatch-new.ensures tt).packs

pub returns-clause-step : goal.returns-clause-step
returns-clause-step c =
    let x : SiteAndRow = record { site = c.args.site; row = c.args.row } in
    becomes c.exchange.ensures.stays ((c.exchange.ensures.learns x c.cell_index-index.ensures.index refl c.packed_dispatch-new.ensures tt).view c.unpacked-found.result c.unpacked-found.ensures)
