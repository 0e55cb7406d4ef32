use Rattle.std.proofs.Common.{refl}
use Rattle.vsd_table.proofs.RowWords.{may_claim}
use Rattle.vsd_table.proofs.Seats.{becomes}
use Rattle.vsd_table.proofs.seated.Seated.claim.Goals as goal

pub exchange-found-requires-clause-may : goal.exchange-found-requires-clause-may
exchange-found-requires-clause-may c = may_claim c.args.table.now c.args.self.now c.requires.seat c.args.row c.row_word_index-index.result c.requires.row c.row_word_index-index.ensures.index

pub returns-clause-step : goal.returns-clause-step
returns-clause-step c = becomes c.exchange-found.ensures.stays (c.exchange-found.ensures.learns c.args.row c.row_word_index-index.ensures.index refl refl tt).view

pub returns-clause-in_range : goal.returns-clause-in_range
returns-clause-in_range c = (c.exchange-found.ensures.learns c.args.row c.row_word_index-index.ensures.index refl refl tt).in_range
