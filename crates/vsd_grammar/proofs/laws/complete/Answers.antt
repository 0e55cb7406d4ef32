use Rattle.vsd_grammar.proofs.Completeness.{complete}
use Rattle.vsd_grammar.proofs.laws.complete.Goals as goal

pub returns : goal.returns
returns g c = λ decides i x j. complete g.P.Production.Value g.P.Production.production g.P.Production.follow i x j decides
