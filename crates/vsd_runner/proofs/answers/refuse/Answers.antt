use Rattle.vsd_runner.specs.declared.statuses.Status.TheVariants.{Refused}
use Rattle.vsd_runner.proofs.Answering.{one_refused}
use Rattle.vsd_runner.proofs.answers.refuse.Goals as goal

pub returns-in-Err-clause-writes : goal.returns-in-Err-clause-writes
returns-in-Err-clause-writes g c =
    let line = c.in-Ok.line.items in (
      Refused c.args.refusal,
      line,
      one_refused c.args.text.now c.args.refusal line c.in-Ok.ensures c.requires,
      rw c.deref.ensures.value at c.in-Err.ensures.part,
      rw c.deref.ensures.value at c.in-Err.ensures.sure,
    )
