use Rattle.std.proofs.Common.{ℕ}
use Rattle.vsd_rows.proofs.Makes.{reads}
use Rattle.vsd_rows.proofs.StepsMade.{unpin_made}
use Rattle.vsd_rows.proofs.pins.unpin.Goals as goal

pub returns-clause-trail : goal.returns-clause-trail
returns-clause-trail c = reads (λ (word : ℕ). tt) (unpin_made _ _ c.unpin.ensures.step)
