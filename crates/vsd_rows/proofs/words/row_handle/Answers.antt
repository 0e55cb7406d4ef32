use Rattle.std.proofs.Common.{◌≡◌, IfSome, subst}
use Rattle.vsd_words.specs.declared.handle.Handle.{Handle}
use Rattle.vsd_rule.specs.RowSteps.{unpacked_handle}
use Rattle.vsd_trails.proofs.Words.{handle_read}
use Rattle.vsd_rows.proofs.Makes.{reads, answers}
use Rattle.vsd_rows.proofs.StepsMade.{row_word_made, becomes_as, handle_found}
use Rattle.vsd_rows.proofs.words.row_handle.Goals as goal

pub returns-clause-trail : goal.returns-clause-trail
returns-clause-trail c =
    answers (handle_read _ _ c.unpacked.ensures) (reads unpacked_handle (row_word_made _ _ _ _ _ c.row_word-found.ensures.step))

pub returns-clause-step : goal.returns-clause-step
returns-clause-step c = becomes_as (handle_found _ _ _ _ c.unpacked.ensures) c.row_word-found.ensures.step

pub returns-clause-again : goal.returns-clause-again
returns-clause-again c = λ x there.
    subst (λ (h : Handle). IfSome x.seen.handle (λ (seen : Handle). h ≡ seen)) (handle_read _ _ c.unpacked.ensures)
    (c.row_word-found.ensures.again c.requires.protected.pinned x there)
