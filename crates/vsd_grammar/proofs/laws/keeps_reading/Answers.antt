use Rattle.vsd_grammar.proofs.Consequences.{keeps_reading}
use Rattle.vsd_grammar.proofs.laws.keeps_reading.Goals as goal

pub returns : goal.returns
returns g c = keeps_reading g.P.Production.Value g.P.Production.production
