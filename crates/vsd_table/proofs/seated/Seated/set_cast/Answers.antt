use Rattle.std.proofs.Common.{refl, arith}
use Rattle.vsd_table.proofs.CastWords.{may_set_cast}
use Rattle.vsd_table.proofs.Seats.{becomes}
use Rattle.vsd_table.proofs.seated.Seated.set_cast.Goals as goal

pub store-requires-clause-may : goal.store-requires-clause-may
store-requires-clause-may c =
    let w = c.requires.writing in
    let e = c.requires.evidence in
    may_set_cast c.args.table.now c.args.self.now c.requires.seat c.args.region c.args.row c.requires.region c.requires.row _ (let i = c.cast_index-index.ensures.index in omega arith) e.0 c.args.word c.pack.result w.0 w.1 (record { in_range = c.requires.word; packed = c.pack.ensures.packing }) e.1

pub returns-clause-step : goal.returns-clause-step
returns-clause-step c = becomes c.store.ensures.stays
    (c.store.ensures.learns (record { at = (record { region = c.args.region; row = c.args.row }); word = c.args.word }) (let i = c.cast_index-index.ensures.index in omega arith) c.pack.ensures.packing refl (c.requires.row, c.requires.word))
