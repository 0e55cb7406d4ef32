use Rattle.std.proofs.Common.{refl, arith}
use Rattle.vsd_table.proofs.CastWords.{may_load_source}
use Rattle.vsd_table.proofs.Seats.{becomes}
use Rattle.vsd_table.proofs.seated.Seated.source.Goals as goal

pub load-found-requires-clause-may : goal.load-found-requires-clause-may
load-found-requires-clause-may c = may_load_source c.args.table.now c.args.self.now c.requires.seat c.args.region c.args.row c.requires.region c.requires.row _ (let e = c.cast_index-index.ensures.index in omega arith)

pub handle_of-requires : goal.handle_of-requires
handle_of-requires c = (c.load-found.ensures.learns (record { region = c.args.region; row = c.args.row }) (let e = c.cast_index-index.ensures.index in omega arith) refl refl c.requires.row).packs

pub returns-clause-step : goal.returns-clause-step
returns-clause-step c = becomes c.load-found.ensures.stays
    ((c.load-found.ensures.learns (record { region = c.args.region; row = c.args.row }) (let e = c.cast_index-index.ensures.index in omega arith) refl refl c.requires.row).view c.handle_of.result c.handle_of.ensures)
