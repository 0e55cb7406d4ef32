use Rattle.std.proofs.Common.{refl}
use Rattle.vsd_table.proofs.LimboWords.{may_raise}
use Rattle.vsd_table.proofs.Seats.{becomes}
use Rattle.vsd_table.proofs.seated.Seated.raise.Goals as goal

pub exchange-found-requires-clause-may : goal.exchange-found-requires-clause-may
exchange-found-requires-clause-may c = may_raise c.args.table.now c.args.self.now c.requires.seat c.args.epoch _ refl c.requires.epoch

pub returns-clause-step : goal.returns-clause-step
returns-clause-step c = becomes c.exchange-found.ensures.stays (c.exchange-found.ensures.learns c.args.epoch refl refl refl tt)
