use Rattle.vsd_lines.proofs.Saying.{text_is}
use Rattle.vsd_lines.proofs.laws.said_law.Goals as goal

pub returns : goal.returns
returns g c = λ w script types tokens method slot agrees can. text_is g.T.Telling.says g.T.Telling.fits w script types tokens method slot agrees can
