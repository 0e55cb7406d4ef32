use Rattle.vsd_script.proofs.CountingLemmas.{finds_nth, slots_written}
use Rattle.vsd_script.proofs.laws.slots_are_counted.Goals as goal

pub returns-clause-found : goal.returns-clause-found
returns-clause-found c = finds_nth

pub returns-clause-written : goal.returns-clause-written
returns-clause-written c = slots_written
