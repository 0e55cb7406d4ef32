use Rattle.std.proofs.Common.{refl}
use Rattle.vsd_table.proofs.CellWords.{may_count}
use Rattle.vsd_table.proofs.Seats.{becomes}
use Rattle.vsd_table.proofs.seated.Seated.count.Goals as goal

pub add-requires-clause-may : goal.add-requires-clause-may
add-requires-clause-may c = may_count c.args.table.now c.args.self.now c.requires.seat c.args.token c.count_index-index.result c.requires.token c.count_index-index.ensures.index

pub returns-clause-step : goal.returns-clause-step
returns-clause-step c = becomes c.add.ensures.stays (c.add.ensures.learns c.args.token c.count_index-index.ensures.index refl refl tt)
