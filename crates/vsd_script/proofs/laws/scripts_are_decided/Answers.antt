use Rattle.vsd_script.proofs.Deciding.{decides_script, decides_term_at}
use Rattle.vsd_script.proofs.laws.scripts_are_decided.Goals as goal

pub returns-clause-scripts : goal.returns-clause-scripts
returns-clause-scripts c = decides_script

pub returns-clause-terms : goal.returns-clause-terms
returns-clause-terms c = decides_term_at
