use Rattle.std.proofs.Common.{refl}
use Rattle.vsd_table.proofs.HandleWords.{may_load_handle}
use Rattle.vsd_table.proofs.Seats.{becomes}
use Rattle.vsd_table.proofs.seated.Seated.handle_word.Goals as goal

pub load-found-requires-clause-may : goal.load-found-requires-clause-may
load-found-requires-clause-may c = may_load_handle c.args.table.now c.args.self.now c.requires.seat c.args.row c.handle_index-index.result c.handle_index-index.ensures.index c.requires.row

pub unpacked-requires : goal.unpacked-requires
unpacked-requires c = (c.load-found.ensures.learns c.args.row c.handle_index-index.ensures.index refl refl tt).packs

pub returns-clause-step : goal.returns-clause-step
returns-clause-step c = becomes c.load-found.ensures.stays
    ((c.load-found.ensures.learns c.args.row c.handle_index-index.ensures.index refl refl tt).view c.unpacked.result c.unpacked.ensures)

pub returns-clause-finds : goal.returns-clause-finds
returns-clause-finds c = (c.load-found.ensures.learns c.args.row c.handle_index-index.ensures.index refl refl tt).finds c.unpacked.result c.unpacked.ensures

pub returns-clause-one_binding : goal.returns-clause-one_binding
returns-clause-one_binding c = (c.load-found.ensures.learns c.args.row c.handle_index-index.ensures.index refl refl tt).one_binding
