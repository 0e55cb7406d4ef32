use Rattle.vsd_itable.proofs.UpwardLaws.{lists-upward, nearest-first}
use Rattle.vsd_itable.proofs.laws.interfaces_upward_law.Goals as goal

pub returns-clause-listed : goal.returns-clause-listed
returns-clause-listed c = lists-upward

pub returns-clause-nearest : goal.returns-clause-nearest
returns-clause-nearest c = nearest-first
