use Rattle.std.proofs.Common.{◌<◌}
use Rattle.vsd_core.specs.Runtimes.{IsCallerOf}
use Rattle.vsd_core.proofs.tests.Worker.work.Given as goal

abbrev pub invariant-loop : goal.invariant-loop
invariant-loop l = record { caller : IsCallerOf l.opened.runtime l.self.caller; number : l.t < 4 }
