use Rattle.vsd_decls.proofs.Deciding.{decides_declarations}
use Rattle.vsd_decls.proofs.laws.declarations_are_decided.Goals as goal

pub returns : goal.returns
returns c = decides_declarations
