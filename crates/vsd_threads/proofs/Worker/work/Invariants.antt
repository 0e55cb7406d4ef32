use Rattle.vsd_core.specs.Runtimes.{IsCallerOf}
use Rattle.vsd_threads.proofs.Worker.work.Given as goal

abbrev pub invariant-loop-turn : goal.invariant-loop-turn
invariant-loop-turn l = IsCallerOf l.shared.runtime l.self.caller
