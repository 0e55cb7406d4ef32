use Rattle.std.proofs.Common.{ℕ}
use Rattle.vsd_rows.proofs.Makes.{reads}
use Rattle.vsd_rows.proofs.StepsMade.{free_made}
use Rattle.vsd_rows.proofs.claims.abandon.Goals as goal

pub returns-clause-trail : goal.returns-clause-trail
returns-clause-trail c = reads (λ (word : ℕ). tt) (free_made _ _ _ c.free.ensures.step)
