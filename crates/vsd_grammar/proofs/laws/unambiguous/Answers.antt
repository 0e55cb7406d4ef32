use Rattle.vsd_grammar.proofs.Consequences.{unambiguous}
use Rattle.vsd_grammar.proofs.laws.unambiguous.Goals as goal

pub returns : goal.returns
returns g c = unambiguous g.P.Production.Value g.P.Production.production g.P.Production.follow
