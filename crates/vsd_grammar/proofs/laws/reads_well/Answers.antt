use Rattle.vsd_grammar.proofs.Results.{reads_well}
use Rattle.vsd_grammar.proofs.laws.reads_well.Goals as goal

pub returns : goal.returns
returns g c = reads_well g.P.Production.Value g.P.Production.production g.P.Production.follow
