use Rattle.std.proofs.Common.{refl}
use Rattle.vsd_table.proofs.RowWords.{may_set_token}
use Rattle.vsd_table.proofs.Seats.{becomes}
use Rattle.vsd_table.proofs.seated.Seated.set_token.Goals as goal

pub store-requires-clause-may : goal.store-requires-clause-may
store-requires-clause-may c = may_set_token c.args.table.now c.args.self.now c.requires.seat c.args.row c.row_word_index-index.result c.requires.row c.args.token c.from.result c.from.ensures c.row_word_index-index.ensures.index c.ranges.token.fits c.requires.private

pub returns-clause-step : goal.returns-clause-step
returns-clause-step c = becomes c.store.ensures.stays
    (c.store.ensures.learns (record { row = c.args.row; number = c.args.token }) c.row_word_index-index.ensures.index c.from.ensures refl tt)
