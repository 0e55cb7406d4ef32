use Rattle.vsd_grammar.proofs.Consequences.{keeps_refusal}
use Rattle.vsd_grammar.proofs.laws.keeps_refusal.Goals as goal

pub returns : goal.returns
returns g c = keeps_refusal g.P.Production.Value g.P.Production.production
