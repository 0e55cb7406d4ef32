use Rattle.std.proofs.Common.{refl}
use Rattle.vsd_table.proofs.RowWords.{may_free}
use Rattle.vsd_table.proofs.Seats.{becomes}
use Rattle.vsd_table.proofs.seated.Seated.free.Goals as goal

pub store-requires-clause-may : goal.store-requires-clause-may
store-requires-clause-may c = may_free c.args.table.now c.args.self.now c.requires.seat c.args.row c.row_word_index-index.result c.requires.row c.row_word_index-index.ensures.index c.requires.private

pub returns-clause-step : goal.returns-clause-step
returns-clause-step c = becomes c.store.ensures.stays (c.store.ensures.learns c.args.row c.row_word_index-index.ensures.index refl refl tt)
