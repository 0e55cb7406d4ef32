use Rattle.vsd_grammar.specs.Laws.{any_cause}
use Rattle.vsd_grammar.proofs.Counts.{keeps_to}
use Rattle.vsd_grammar.proofs.laws.keeps_counts.Goals as goal

pub returns : goal.returns
returns g c = λ keeps here on b i x j d. keeps_to any_cause keeps here on g.P.Production.Value g.P.Production.production i x j b d
