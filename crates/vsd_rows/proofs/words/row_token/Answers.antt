use Rattle.std.proofs.Common.{ℕ}
use Rattle.vsd_rows.proofs.Makes.{reads}
use Rattle.vsd_rows.proofs.StepsMade.{row_word_made}
use Rattle.vsd_rows.proofs.words.row_token.Goals as goal

pub returns-clause-trail : goal.returns-clause-trail
returns-clause-trail c = reads (λ (word : ℕ). word) (row_word_made _ _ _ _ _ c.row_word-found.ensures.step)
