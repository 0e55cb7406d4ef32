use Rattle.std.proofs.Common.{All}
use Rattle.vsd_core.specs.Callers.{IsNewCaller}
use Rattle.vsd_core.specs.Runtimes.{table_of, IsCallerOf}
use Rattle.vsd_threads.proofs.workers_of.Given as goal

abbrev pub invariant-loop-number : goal.invariant-loop-number
invariant-loop-number l = record {
  callers : All (IsNewCaller (table_of l.shared.runtime)) l.callers.items;
  workers : All (λ w. IsCallerOf l.shared.runtime w.caller) l.workers.items;
}
