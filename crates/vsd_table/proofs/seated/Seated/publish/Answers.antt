use Rattle.std.proofs.Common.{refl}
use Rattle.vsd_table.proofs.CastWords.{may_publish}
use Rattle.vsd_table.proofs.Seats.{becomes}
use Rattle.vsd_table.proofs.seated.Seated.publish.Goals as goal

pub store-requires-clause-may : goal.store-requires-clause-may
store-requires-clause-may c =
    let x = c.requires.written in
    may_publish c.args.table.now c.args.self.now c.requires.seat c.args.region c.args.row c.requires.region c.requires.row c.cast_index-index.result c.cast_index-index.ensures.index c.args.version x.0 x.1 x.2 x.3 x.4 x.5 x.6 x.7

pub returns-clause-step : goal.returns-clause-step
returns-clause-step c = becomes c.store.ensures.stays (c.store.ensures.learns (record { at = (record { region = c.args.region; row = c.args.row }); version = c.args.version }) c.cast_index-index.ensures.index refl refl c.requires.row)
