use Rattle.std.proofs.Common.{sym, ◌∙◌, ap, subst}
use Rattle.vsd_words.specs.declared.cell_word.CellWord.{CellWord}
use Rattle.vsd_rule.specs.declared.view.View.{View}
use Rattle.vsd_rule.specs.RowSteps.{after_cell}
use Rattle.vsd_table.specs.Seating.{view_of}
use Rattle.vsd_trails.specs.Words.{unpacked_cell}
use Rattle.vsd_trails.proofs.Words.{cell_read}
use Rattle.vsd_rows.specs.Hands.{IsProtected}
use Rattle.vsd_rows.proofs.Makes.{reads, answers}
use Rattle.vsd_rows.proofs.StepsMade.{cell_made}
use Rattle.vsd_rows.proofs.Protecting.{cell_seen_row, seen_protected}
use Rattle.vsd_cells.proofs.cells.read.Goals as goal

pub returns-clause-trail : goal.returns-clause-trail
returns-clause-trail c = answers (cell_read c.cell.result) (reads unpacked_cell (cell_made _ _ _ _ c.cell.ensures.step))

pub returns-clause-protects : goal.returns-clause-protects
returns-clause-protects c = λ row names.
    let v = view_of c.args.hand.now.seated in
    subst (λ (w : View). IsProtected w row) (sym (c.cell.ensures.step.view ∙ ap (λ (w : CellWord). after_cell v c.args.site w) names))
    (seen_protected _ row _ _ (cell_seen_row v c.args.site row c.requires.pinned))
