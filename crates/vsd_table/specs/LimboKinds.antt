-- The kinds of step by which rows are retired and swept.
use Rattle.std.specs.Prelude.{◌≡◌, ℕ, ◌+◌, ◌≤◌, ◌^◌}
use Rattle.vsd_rule.specs.declared.view.View.{View}
use Rattle.vsd_rule.specs.Layout.{pin_at, row_word_at}
use Rattle.vsd_rule.specs.RowSteps.{after_epoch_to_retire, after_raise, after_epoch_of, after_free_swept}
use Rattle.vsd_rule.specs.RowFacts.{Leaves}
use Rattle.vsd_table.specs.StepKind.{Kind}

pub record LoadedToRetire (before : View) (row found : ℕ) (after : View) : Type 0 where
  pub view : after ≡ after_epoch_to_retire before row found
  pub small : found ≤ 2 ^ 62

-- the row that enters limbo is carried by no word: it is the one that was taken out last
abbrev pub epoch_to_retire : Kind
epoch_to_retire = record {
  Given = ℕ;
  word = λ s row. 0;
  first = λ row. 0;
  second = λ row. 0;
  Fits = λ v row. Leaves v row;
  Tells = LoadedToRetire;
}

abbrev pub raise : Kind
raise = record {
  Given = ℕ;
  word = λ s epoch. 0;
  first = λ epoch. epoch;
  second = λ epoch. epoch + 1;
  Fits = λ v epoch. Unit {0};
  Tells = λ before epoch found after. after ≡ after_raise before epoch found;
}

abbrev pub epoch_of : Kind
epoch_of = record {
  Given = ℕ;
  word = λ s caller. pin_at caller;
  first = λ caller. 0;
  second = λ caller. 0;
  Fits = λ v caller. Unit {0};
  Tells = λ before caller found after. after ≡ after_epoch_of before caller found;
}

abbrev pub free_swept : Kind
free_swept = record {
  Given = ℕ;
  word = λ s row. row_word_at s row 0;
  first = λ row. 0;
  second = λ row. 0;
  Fits = λ v row. Unit {0};
  Tells = λ before row found after. after ≡ after_free_swept before row;
}
