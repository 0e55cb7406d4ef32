use Rattle.std.proofs.Common.{ℕ, ◌+◌, nat_eq, ◌∙◌, ap}
use Rattle.vsd_words.specs.declared.cell_word.CellWord.TheVariants.{Dispatch}
use Rattle.vsd_rule.specs.declared.view.View.{View}
use Rattle.vsd_table.specs.Seating.{view_of}
use Rattle.vsd_rows.proofs.Makes.{reads, answers}
use Rattle.vsd_rows.proofs.StepsMade.{to_lookup_made}
use Rattle.vsd_cells.proofs.Exchanged.{cell_test, taken_leaves}
use Rattle.vsd_cells.proofs.cells.to_lookup.Goals as goal

pub returns-clause-trail : goal.returns-clause-trail
returns-clause-trail c =
    answers (cell_test c.to_lookup.result.0 c.to_lookup.result.1 (Dispatch c.args.row) c.to_lookup.ensures.won)
    (reads (λ (word : ℕ). nat_eq word (2 + c.args.row)) (to_lookup_made _ _ _ _ _ c.to_lookup.ensures.step))

pub returns-clause-leaves : goal.returns-clause-leaves
returns-clause-leaves c = λ won.
    taken_leaves (view_of c.args.hand.now.seated) (view_of c.to_lookup.new.self) c.args.row c.to_lookup.result.1 (ap (λ (w : View). w.rows) c.to_lookup.ensures.step.view)
    (cell_test c.to_lookup.result.0 c.to_lookup.result.1 (Dispatch c.args.row) c.to_lookup.ensures.won ∙ won)
