-- The kinds of step on a row's four words.
use Rattle.std.specs.Prelude.{◌≡◌, ℕ}
use Rattle.vsd_words.specs.declared.handle.Handle.{Handle}
use Rattle.vsd_words.specs.Handle.{HandleInRange, packed_handle}
use Rattle.vsd_rule.specs.declared.step.RowWord.{RowWord}
use Rattle.vsd_rule.specs.declared.step.RowWord.TheVariants.{Claim}
use Rattle.vsd_rule.specs.declared.view.View.{View}
use Rattle.vsd_rule.specs.Layout.{row_word_at}
use Rattle.vsd_rule.specs.RowSteps.{offset_of, after_claim, after_set_handle, after_set_token, after_set_target, after_free, after_row_word}
use Rattle.vsd_rule.specs.RowFacts.{RowWordInRange, FindsAgain}
use Rattle.vsd_table.specs.StepKind.{Kind}

pub record TriedToClaim (before : View) (row found : ℕ) (after : View) : Type 0 where
  pub view : after ≡ after_claim before row found
  pub in_range : RowWordInRange Claim found

-- an exchange of the claim word from free to claimed
abbrev pub claim : Kind
claim = record {
  Given = ℕ;
  word = λ s row. row_word_at s row 0;
  first = λ row. 0;
  second = λ row. 1;
  Fits = λ v row. Unit {0};
  Tells = TriedToClaim;
}

-- ---- a load

pub record WordOfRow : Type 0 where
  pub row : ℕ
  pub which : RowWord

pub record LoadedRowWord (before : View) (x : WordOfRow) (found : ℕ) (after : View) : Type 0 where
  pub view : after ≡ after_row_word before x.row x.which found
  pub in_range : RowWordInRange x.which found
  pub again : FindsAgain before x.row x.which found

abbrev pub load_row_word : Kind
load_row_word = record {
  Given = WordOfRow;
  word = λ s x. row_word_at s x.row (offset_of x.which);
  first = λ x. 0;
  second = λ x. 0;
  Fits = λ v x. Unit {0};
  Tells = LoadedRowWord;
}

-- ---- stores in a row of one's own

pub record HandleOfRow : Type 0 where
  pub row : ℕ
  pub handle : Handle

abbrev pub set_handle : Kind
set_handle = record {
  Given = HandleOfRow;
  word = λ s x. row_word_at s x.row 1;
  first = λ x. packed_handle x.handle;
  second = λ x. 0;
  Fits = λ v x. HandleInRange x.handle;
  Tells = λ before x found after. after ≡ after_set_handle before x.row x.handle;
}

pub record NumberOfRow : Type 0 where
  pub row : ℕ
  pub number : ℕ

abbrev pub set_token : Kind
set_token = record {
  Given = NumberOfRow;
  word = λ s x. row_word_at s x.row 2;
  first = λ x. x.number;
  second = λ x. 0;
  Fits = λ v x. Unit {0};
  Tells = λ before x found after. after ≡ after_set_token before x.row x.number;
}

abbrev pub set_target : Kind
set_target = record {
  Given = NumberOfRow;
  word = λ s x. row_word_at s x.row 3;
  first = λ x. x.number;
  second = λ x. 0;
  Fits = λ v x. Unit {0};
  Tells = λ before x found after. after ≡ after_set_target before x.row x.number;
}

abbrev pub free : Kind
free = record {
  Given = ℕ;
  word = λ s row. row_word_at s row 0;
  first = λ row. 0;
  second = λ row. 0;
  Fits = λ v row. Unit {0};
  Tells = λ before row found after. after ≡ after_free before row;
}
