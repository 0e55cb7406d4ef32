use Rattle.vsd_decls.proofs.WellFormed.{are_well_formed}
use Rattle.vsd_decls.proofs.laws.declarations_are_well_formed.Goals as goal

pub returns : goal.returns
returns c = are_well_formed
