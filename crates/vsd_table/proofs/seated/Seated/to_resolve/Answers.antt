use Rattle.std.proofs.Common.{refl}
use Rattle.vsd_table.specs.CellKinds.{SiteAndRow}
use Rattle.vsd_table.proofs.CellWords.{may_to_resolve}
use Rattle.vsd_table.proofs.Seats.{becomes}
use Rattle.vsd_table.proofs.seated.Seated.to_resolve.Goals as goal

pub exchange-requires-clause-may : goal.exchange-requires-clause-may
exchange-requires-clause-may c = may_to_resolve c.args.table.now c.args.self.now c.requires.seat c.args.site c.cell_index-index.result c.requires.site c.cell_index-index.ensures.index c.args.row c.packed_dispatch-old.result 1 c.requires.row c.packed_dispatch-old.ensures refl

pub unpacked-found-requires : goal.unpacked-found-requires
unpacked-found-requires c =
    let x : SiteAndRow = record { site = c.args.site; row = c.args.row } in
    (c.exchange.ensures.learns x c.cell_index-index.ensures.index c.packed_dispatch-old.ensures refl tt).packs

pub returns-clause-step : goal.returns-clause-step
returns-clause-step c =
    let x : SiteAndRow = record { site = c.args.site; row = c.args.row } in
    becomes c.exchange.ensures.stays ((c.exchange.ensures.learns x c.cell_index-index.ensures.index c.packed_dispatch-old.ensures refl tt).view c.unpacked-found.result c.unpacked-found.ensures)
