use Rattle.std.proofs.Common.{refl}
use Rattle.vsd_table.proofs.CastWords.{may_claim_cast}
use Rattle.vsd_table.proofs.Seats.{becomes}
use Rattle.vsd_table.proofs.seated.Seated.claim_cast.Goals as goal

pub exchange-found-requires-clause-may : goal.exchange-found-requires-clause-may
exchange-found-requires-clause-may c = may_claim_cast c.args.table.now c.args.self.now c.requires.seat c.args.region c.args.row c.requires.region c.requires.row c.cast_index-index.result c.cast_index-index.ensures.index

pub returns-clause-step : goal.returns-clause-step
returns-clause-step c = becomes c.exchange-found.ensures.stays (c.exchange-found.ensures.learns (record { region = c.args.region; row = c.args.row }) c.cast_index-index.ensures.index refl refl c.requires.row)
