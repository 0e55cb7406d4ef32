use Rattle.vsd_core.proofs.CastRows.{casts_stay}
use Rattle.vsd_core.proofs.laws.cast_rows_stay.Goals as goal

pub returns : goal.returns
returns c = casts_stay
