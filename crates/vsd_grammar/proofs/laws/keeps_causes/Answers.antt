use Rattle.vsd_grammar.proofs.Results.{keeps_causes}
use Rattle.vsd_grammar.proofs.laws.keeps_causes.Goals as goal

pub returns : goal.returns
returns g c = keeps_causes g.P.Production.Value g.P.Production.production
