use Rattle.std.proofs.Common.{refl}
use Rattle.vsd_table.proofs.RowWords.{may_set_handle}
use Rattle.vsd_table.proofs.Seats.{becomes}
use Rattle.vsd_table.proofs.seated.Seated.set_handle.Goals as goal

pub store-requires-clause-may : goal.store-requires-clause-may
store-requires-clause-may c = may_set_handle c.args.table.now c.args.self.now c.requires.seat c.args.row c.row_word_index-index.result c.requires.row c.args.handle c.pack.result
    c.row_word_index-index.ensures.index (record { in_range = c.requires.handle; packed = c.pack.ensures.packing }) c.requires.private c.requires.evidence

pub returns-clause-step : goal.returns-clause-step
returns-clause-step c = becomes c.store.ensures.stays
    (c.store.ensures.learns (record { row = c.args.row; handle = c.args.handle }) c.row_word_index-index.ensures.index c.pack.ensures.packing refl c.requires.handle)
