use Rattle.std.proofs.Common.{ℕ}
use Rattle.vsd_rows.proofs.Makes.{reads}
use Rattle.vsd_rows.proofs.StepsMade.{unbind_made}
use Rattle.vsd_handles.proofs.binding.unbind.Goals as goal

pub returns-clause-trail : goal.returns-clause-trail
returns-clause-trail c = reads (λ (word : ℕ). tt) (unbind_made _ _ _ _ _ c.unbind.ensures.step)
