use Rattle.vsd_runner.proofs.Runs.{outcome_of}
use Rattle.vsd_runner.proofs.running.status_of.Goals as goal

pub returns-clause-outcome : goal.returns-clause-outcome
returns-clause-outcome g c =
    let command = c.is_command.ensures.0 c.if-not-is_command.false in
    outcome_of _ _ _ _ _ _ _ _ _ _ command c.in-Ok-read_up_to.ensures.read (rw c.deref.ensures.value at c.write_for.ensures.writes)
