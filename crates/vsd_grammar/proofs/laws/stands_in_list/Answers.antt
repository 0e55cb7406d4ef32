use Rattle.vsd_grammar.proofs.Results.{stands_in_list}
use Rattle.vsd_grammar.proofs.laws.stands_in_list.Goals as goal

pub returns : goal.returns
returns g c = stands_in_list g.P.Production.Value g.P.Production.production
