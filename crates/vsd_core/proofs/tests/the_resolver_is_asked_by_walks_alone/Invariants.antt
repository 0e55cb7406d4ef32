use Rattle.vsd_core.specs.Runtimes.{IsCallerOf}
use Rattle.vsd_core.proofs.tests.the_resolver_is_asked_by_walks_alone.Given as goal

abbrev pub invariant-loop-turn : goal.invariant-loop-turn
invariant-loop-turn g l = IsCallerOf l.opened.runtime l.who
