use Rattle.std.proofs.Common.{refl}
use Rattle.vsd_table.proofs.LimboWords.{may_load_to_retire}
use Rattle.vsd_table.proofs.Seats.{becomes}
use Rattle.vsd_table.proofs.seated.Seated.epoch_to_retire.Goals as goal

pub load-requires-clause-may : goal.load-requires-clause-may
load-requires-clause-may c = may_load_to_retire c.args.table.now c.args.self.now c.requires.seat c.args.row c.requires.row c.requires.leaves c.requires.room

pub returns-clause-step : goal.returns-clause-step
returns-clause-step c = becomes c.load.ensures.stays (c.load.ensures.learns c.args.row refl refl refl c.requires.leaves).view

pub returns-clause-small : goal.returns-clause-small
returns-clause-small c = (c.load.ensures.learns c.args.row refl refl refl c.requires.leaves).small
