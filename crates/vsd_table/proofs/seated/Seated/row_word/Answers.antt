use Rattle.std.proofs.Common.{refl}
use Rattle.vsd_table.proofs.RowWords.{may_load_row_word}
use Rattle.vsd_table.proofs.Seats.{becomes}
use Rattle.vsd_table.proofs.seated.Seated.row_word.Goals as goal

pub load-requires-clause-may : goal.load-requires-clause-may
load-requires-clause-may c = may_load_row_word c.args.table.now c.args.self.now c.requires.seat c.args.row c.row_word_index-index.result c.requires.row c.args.which c.row_word_index-index.ensures.index

pub returns-clause-step : goal.returns-clause-step
returns-clause-step c = becomes c.load.ensures.stays
    (c.load.ensures.learns (record { row = c.args.row; which = c.args.which }) c.row_word_index-index.ensures.index refl refl tt).view

pub returns-clause-in_range : goal.returns-clause-in_range
returns-clause-in_range c = (c.load.ensures.learns (record { row = c.args.row; which = c.args.which }) c.row_word_index-index.ensures.index refl refl tt).in_range

pub returns-clause-again : goal.returns-clause-again
returns-clause-again c = (c.load.ensures.learns (record { row = c.args.row; which = c.args.which }) c.row_word_index-index.ensures.index refl refl tt).again
