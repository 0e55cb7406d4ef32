use Rattle.vsd_core.proofs.Agreeing.{all_agree}
use Rattle.vsd_core.proofs.agreement.answers_agree.Goals as goal

pub returns : goal.returns
returns c = all_agree
