use Rattle.std.proofs.Common.{refl, arith}
use Rattle.vsd_table.proofs.CastWords.{may_load_cast}
use Rattle.vsd_table.proofs.Seats.{becomes}
use Rattle.vsd_table.proofs.seated.Seated.cast_word.Goals as goal

pub load-found-requires-clause-may : goal.load-found-requires-clause-may
load-found-requires-clause-may c = may_load_cast c.args.table.now c.args.self.now c.requires.seat c.args.region c.args.row c.requires.region c.requires.row _ (let e = c.cast_index-index.ensures.index in omega arith)

pub cast_word_of-requires : goal.cast_word_of-requires
cast_word_of-requires c = (c.load-found.ensures.learns (record { region = c.args.region; row = c.args.row }) (let e = c.cast_index-index.ensures.index in omega arith) refl refl c.requires.row).packs

pub returns-clause-step : goal.returns-clause-step
returns-clause-step c = becomes c.load-found.ensures.stays
    ((c.load-found.ensures.learns (record { region = c.args.region; row = c.args.row }) (let e = c.cast_index-index.ensures.index in omega arith) refl refl c.requires.row).view c.cast_word_of.result c.cast_word_of.ensures)
