use Rattle.vsd_core.proofs.Protection.{rows_stay}
use Rattle.vsd_core.proofs.laws.protected_rows_stay.Goals as goal

pub returns : goal.returns
returns c = rows_stay
