use Rattle.std.proofs.Common.{All}
use Rattle.vsd_core.specs.Callers.{IsNewCaller}
use Rattle.vsd_core.specs.Runtimes.{table_of, IsCallerOf}
use Rattle.vsd_core.proofs.tests.workers_of.Given as goal

abbrev pub invariant-loop-seed : goal.invariant-loop-seed
invariant-loop-seed l = record {
  callers : All (IsNewCaller (table_of l.opened.runtime)) l.callers.items;
  workers : All (λ w. IsCallerOf l.opened.runtime w.caller) l.workers.items;
}
