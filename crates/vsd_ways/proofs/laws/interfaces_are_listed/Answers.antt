use Rattle.vsd_ways.proofs.ListedLaws.{has-listed, leads-listed}
use Rattle.vsd_ways.proofs.laws.interfaces_are_listed.Goals as goal

pub returns-clause-part : goal.returns-clause-part
returns-clause-part c ds places depths settled height u v deep = leads-listed ds places depths settled height u v deep

pub returns-clause-class : goal.returns-clause-class
returns-clause-class c ds places depths settled height deep chain owner = has-listed ds places depths settled height chain owner deep
