use Rattle.vsd_core.proofs.Agreeing.{own_agree}
use Rattle.vsd_core.proofs.agreement.own_answers_agree.Goals as goal

pub returns : goal.returns
returns c = own_agree
