use Rattle.vsd_core.specs.Runtimes.{IsCallerOf}
use Rattle.vsd_core.proofs.tests.a_caller_has_sixty_four_handles.Given as goal

abbrev pub invariant-loop : goal.invariant-loop
invariant-loop g l = record { who : IsCallerOf l.opened.runtime l.who; other : IsCallerOf l.opened.runtime l.other }
