use Rattle.vsd_grammar.proofs.Consequences.{goes_forward}
use Rattle.vsd_grammar.proofs.laws.goes_forward.Goals as goal

pub returns : goal.returns
returns g c = goes_forward g.P.Production.Value g.P.Production.production
