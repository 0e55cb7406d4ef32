use Rattle.std.proofs.Common.{refl}
use Rattle.vsd_table.proofs.EpochWords.{may_pin}
use Rattle.vsd_table.proofs.Seats.{becomes}
use Rattle.vsd_table.proofs.seated.Seated.pin.Goals as goal

pub store-requires-clause-may : goal.store-requires-clause-may
store-requires-clause-may c =
    let s = c.args.self.now in
    may_pin c.args.table.now s c.requires.seat s.caller c.pin_index-index.result s.is_caller s.numbered c.pin_index-index.ensures.index c.args.epoch _ refl c.requires.loaded

pub returns-clause-step : goal.returns-clause-step
returns-clause-step c = becomes c.store.ensures.stays
    (c.store.ensures.learns (record { caller = c.args.self.now.caller; epoch = c.args.epoch }) c.pin_index-index.ensures.index refl refl tt)
