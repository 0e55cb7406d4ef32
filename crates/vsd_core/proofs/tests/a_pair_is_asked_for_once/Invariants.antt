use Rattle.vsd_core.specs.Runtimes.{IsCallerOf}
use Rattle.vsd_core.proofs.tests.a_pair_is_asked_for_once.Given as goal

abbrev pub invariant-loop : goal.invariant-loop
invariant-loop g l = IsCallerOf l.opened.runtime l.who
