-- What an exchange of a cell decides, and what it makes of the row.
use Rattle.std.proofs.Common.{◌≡◌, ℕ, Bool, true, false, cond, nat_eq, ◌↔◌, IsTrue, refl, sym, ◌∙◌, ap, eq-eqb, ne_eqb}
use Rattle.vsd_words.specs.declared.cell_word.CellWord.{CellWord}
use Rattle.vsd_words.specs.declared.cell_word.CellWord.TheVariants.{Lookup, Dispatch}
use Rattle.vsd_words.specs.CellWord.{packed_cell}
use Rattle.vsd_rule.specs.declared.row_view.RowView.{RowView}
use Rattle.vsd_rule.specs.declared.row_view.Keeping.TheVariants.{Elsewhere, Unlinked}
use Rattle.vsd_rule.specs.declared.view.View.{View}
use Rattle.vsd_rule.specs.Rows.{keeping_of}
use Rattle.vsd_rule.specs.RowSteps.{keeps_row, unlinked, after_to_dispatch}
use Rattle.vsd_rule.specs.RowFacts.{IsPrivate, Leaves}
use Rattle.vsd_trails.specs.Words.{unpacked_cell}
use Rattle.vsd_trails.proofs.Words.{cell_read}

-- the exchange is won exactly where its word is the one that it was compared with
pub cell_test : (won : Bool) (found compared : CellWord) → (IsTrue won ↔ (found ≡ compared)) → nat_eq (packed_cell found) (packed_cell compared) ≡ won
cell_test true found compared decides = eq-eqb _ _ (ap packed_cell (decides.0 refl))
cell_test false found compared decides =
    ne_eqb _ _ (λ same. let e = decides.1 (sym (cell_read found) ∙ (ap unpacked_cell same ∙ cell_read compared)) in cc)

-- a row that was not published stays private
pub stays_private : (v w : View) (site row : ℕ) (found : CellWord) → w ≡ after_to_dispatch v site row found → nat_eq (packed_cell found) (packed_cell Lookup) ≡ false → IsPrivate v row → IsPrivate w row
stays_private v w site row found step lost private = (
  private.0,
  ap (λ (x : View). keeping_of row x.rows.kept) step
      ∙ (ap (λ (won : Bool). keeping_of row (cond won (keeps_row v.rows row Elsewhere) v.rows).kept) lost ∙ private.1),
)

-- the row that was taken out leaves
pub taken_leaves : (v w : View) (row : ℕ) (found : CellWord) → w.rows ≡ unlinked v.rows row found → nat_eq (packed_cell found) (packed_cell (Dispatch row)) ≡ true → Leaves w row
taken_leaves v w row found step won = record {
  others = v.rows.kept;
  latest = ap (λ (d : RowView). d.kept) step ∙ ap (λ (b : Bool). (cond b (keeps_row v.rows row Unlinked) v.rows).kept) won;
}
