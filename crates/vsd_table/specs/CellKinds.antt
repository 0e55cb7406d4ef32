-- The kinds of step on cells and counters.
use Rattle.std.specs.Prelude.{◌≡◌, ℕ, ◌+◌}
use Rattle.vsd_words.specs.declared.cell_word.CellWord.{CellWord}
use Rattle.vsd_words.specs.declared.cell_word.CellWord.TheVariants.{Lookup, Resolve, Dispatch}
use Rattle.vsd_words.specs.CellWord.{packed_cell, IsCellPacking}
use Rattle.vsd_rule.specs.declared.view.View.{View}
use Rattle.vsd_rule.specs.Layout.{counts_from, cells_from}
use Rattle.vsd_rule.specs.RowSteps.{after_cell, after_to_dispatch, after_to_resolve, after_to_lookup, after_count}
use Rattle.vsd_rule.specs.RowFacts.{CellInTable}
use Rattle.vsd_table.specs.StepKind.{Kind}

-- ---- a load

pub record LoadedCell (before : View) (site found : ℕ) (after : View) : Type 0 where
  pub packs : (w : CellWord) × IsCellPacking w found
  pub view : (w : CellWord) → IsCellPacking w found → after ≡ after_cell before site w
  pub in_table : (w : CellWord) → IsCellPacking w found → CellInTable before w

abbrev pub load_cell : Kind
load_cell = record {
  Given = ℕ;
  word = λ s site. cells_from s + site;
  first = λ site. 0;
  second = λ site. 0;
  Fits = λ v site. Unit {0};
  Tells = LoadedCell;
}

-- ---- exchanges

pub record SiteAndRow : Type 0 where
  pub site : ℕ
  pub row : ℕ

-- what an exchange of a cell makes of its seat's view, by the cell that it found
pub record Exchanged (makes : View → ℕ → ℕ → CellWord → View) (before : View) (x : SiteAndRow) (found : ℕ) (after : View) : Type 0 where
  pub packs : (w : CellWord) × IsCellPacking w found
  pub view : (w : CellWord) → IsCellPacking w found → after ≡ makes before x.site x.row w

-- from Lookup to Dispatch of the row
abbrev pub to_dispatch : Kind
to_dispatch = record {
  Given = SiteAndRow;
  word = λ s x. cells_from s + x.site;
  first = λ x. packed_cell Lookup;
  second = λ x. packed_cell (Dispatch x.row);
  Fits = λ v x. Unit {0};
  Tells = Exchanged after_to_dispatch;
}

-- from Dispatch of the row to Resolve
abbrev pub to_resolve : Kind
to_resolve = record {
  Given = SiteAndRow;
  word = λ s x. cells_from s + x.site;
  first = λ x. packed_cell (Dispatch x.row);
  second = λ x. packed_cell Resolve;
  Fits = λ v x. Unit {0};
  Tells = Exchanged after_to_resolve;
}

-- from Dispatch of the row to Lookup
abbrev pub to_lookup : Kind
to_lookup = record {
  Given = SiteAndRow;
  word = λ s x. cells_from s + x.site;
  first = λ x. packed_cell (Dispatch x.row);
  second = λ x. packed_cell Lookup;
  Fits = λ v x. Unit {0};
  Tells = Exchanged after_to_lookup;
}

-- ---- counters

abbrev pub count : Kind
count = record {
  Given = ℕ;
  word = λ s token. counts_from s + token;
  first = λ token. 1;
  second = λ token. 0;
  Fits = λ v token. Unit {0};
  Tells = λ before token found after. after ≡ after_count before token found;
}
