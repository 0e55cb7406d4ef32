use Rattle.std.proofs.Common.{refl}
use Rattle.vsd_table.proofs.CastWords.{may_load_version}
use Rattle.vsd_table.proofs.Seats.{becomes}
use Rattle.vsd_table.proofs.seated.Seated.version.Goals as goal

pub load-requires-clause-may : goal.load-requires-clause-may
load-requires-clause-may c = may_load_version c.args.table.now c.args.self.now c.requires.seat c.args.region c.args.row c.requires.region c.requires.row c.cast_index-index.result c.cast_index-index.ensures.index

pub returns-clause-step : goal.returns-clause-step
returns-clause-step c = becomes c.load.ensures.stays (c.load.ensures.learns (record { region = c.args.region; row = c.args.row }) c.cast_index-index.ensures.index refl refl c.requires.row).0

pub returns-clause-small : goal.returns-clause-small
returns-clause-small c = (c.load.ensures.learns (record { region = c.args.region; row = c.args.row }) c.cast_index-index.ensures.index refl refl c.requires.row).1
