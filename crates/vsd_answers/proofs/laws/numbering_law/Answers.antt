use Rattle.vsd_answers.proofs.Numbered.{is_numbering}
use Rattle.vsd_answers.proofs.laws.numbering_law.Goals as goal

pub returns : goal.returns
returns c = is_numbering
