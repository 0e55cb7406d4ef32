use Rattle.std.proofs.Common.{ℕ, nat_eq, ◌∙◌}
use Rattle.vsd_words.specs.declared.cell_word.CellWord.TheVariants.{Lookup}
use Rattle.vsd_table.specs.Seating.{view_of}
use Rattle.vsd_rows.proofs.Makes.{reads, answers}
use Rattle.vsd_rows.proofs.StepsMade.{to_dispatch_made}
use Rattle.vsd_cells.proofs.Exchanged.{cell_test, stays_private}
use Rattle.vsd_cells.proofs.cells.to_dispatch.Goals as goal

pub returns-clause-trail : goal.returns-clause-trail
returns-clause-trail c =
    answers (cell_test c.to_dispatch.result.0 c.to_dispatch.result.1 Lookup c.to_dispatch.ensures.won)
    (reads (λ (word : ℕ). nat_eq word 0) (to_dispatch_made _ _ _ _ _ c.to_dispatch.ensures.step))

pub returns-clause-lost : goal.returns-clause-lost
returns-clause-lost c = λ lost.
    stays_private (view_of c.args.hand.now.seated) (view_of c.to_dispatch.new.self) c.args.site c.args.row c.to_dispatch.result.1 c.to_dispatch.ensures.step.view
    (cell_test c.to_dispatch.result.0 c.to_dispatch.result.1 Lookup c.to_dispatch.ensures.won ∙ lost) (_, c.requires.filled.filled.stored)
