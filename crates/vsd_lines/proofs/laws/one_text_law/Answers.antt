use Rattle.vsd_lines.proofs.Once.{one_text}
use Rattle.vsd_lines.proofs.laws.one_text_law.Goals as goal

pub returns : goal.returns
returns g c = λ script once a b. one_text g.T.Telling.says g.T.Telling.fits script once a b
