use Rattle.vsd_core.specs.Runtimes.{IsCallerOf}
use Rattle.vsd_core.proofs.tests.each_pair_of_hosts_is_cast_twice.Given as goal

abbrev pub invariant-loop-turn : goal.invariant-loop-turn
invariant-loop-turn g l = IsCallerOf l.opened.runtime l.who
