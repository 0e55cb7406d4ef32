use Rattle.std.proofs.Common.{refl}
use Rattle.vsd_table.proofs.EpochWords.{may_unpin}
use Rattle.vsd_table.proofs.Seats.{becomes}
use Rattle.vsd_table.proofs.seated.Seated.unpin.Goals as goal

pub store-requires-clause-may : goal.store-requires-clause-may
store-requires-clause-may c =
    let s = c.args.self.now in may_unpin c.args.table.now s c.requires.seat s.caller c.pin_index-index.result s.is_caller s.numbered c.pin_index-index.ensures.index

pub returns-clause-step : goal.returns-clause-step
returns-clause-step c = becomes c.store.ensures.stays (c.store.ensures.learns c.args.self.now.caller c.pin_index-index.ensures.index refl refl tt).view

pub returns-clause-agree : goal.returns-clause-agree
returns-clause-agree c = (c.store.ensures.learns c.args.self.now.caller c.pin_index-index.ensures.index refl refl tt).agree
