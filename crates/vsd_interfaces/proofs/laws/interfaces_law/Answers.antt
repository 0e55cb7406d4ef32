use Rattle.vsd_interfaces.proofs.ReachLaws.{lists-reached}
use Rattle.vsd_interfaces.proofs.UniqueLaws.{interfaces-unique}
use Rattle.vsd_interfaces.proofs.laws.interfaces_law.Goals as goal

pub returns-clause-reached : goal.returns-clause-reached
returns-clause-reached c = lists-reached

pub returns-clause-unique : goal.returns-clause-unique
returns-clause-unique c = interfaces-unique
