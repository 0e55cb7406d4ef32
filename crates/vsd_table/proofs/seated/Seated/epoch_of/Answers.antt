use Rattle.std.proofs.Common.{refl}
use Rattle.vsd_table.proofs.LimboWords.{may_load_epoch_of}
use Rattle.vsd_table.proofs.Seats.{becomes}
use Rattle.vsd_table.proofs.seated.Seated.epoch_of.Goals as goal

pub load-requires-clause-may : goal.load-requires-clause-may
load-requires-clause-may c = may_load_epoch_of c.args.table.now c.args.self.now c.requires.seat c.args.caller c.pin_index-index.result c.pin_index-index.ensures.index c.requires.caller

pub returns-clause-step : goal.returns-clause-step
returns-clause-step c = becomes c.load.ensures.stays (c.load.ensures.learns c.args.caller c.pin_index-index.ensures.index refl refl tt)
