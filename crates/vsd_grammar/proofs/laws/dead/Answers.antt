use Rattle.vsd_grammar.proofs.Consequences.{dead}
use Rattle.vsd_grammar.proofs.laws.dead.Goals as goal

pub returns : goal.returns
returns g c = dead g.P.Production.Value g.P.Production.production g.P.Production.follow
