use Rattle.vsd_grammar.proofs.Soundness.{sound}
use Rattle.vsd_grammar.proofs.laws.sound.Goals as goal

pub returns : goal.returns
returns g c = sound g.P.Production.Value g.P.Production.production
