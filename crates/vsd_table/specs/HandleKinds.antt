-- The kinds of step on handle words: what each is given, and what it tells.
use Rattle.std.specs.Prelude.{◌≡◌, ℕ, ◌+◌, true, false}
use Rattle.vsd_words.specs.declared.handle_word.HandleWord.{HandleWord}
use Rattle.vsd_words.specs.HandleWord.{HandleWordInRange, packed_handle_word, IsHandleWordPacking}
use Rattle.vsd_rule.specs.declared.view.View.{View}
use Rattle.vsd_rule.specs.Layout.{handles_from}
use Rattle.vsd_rule.specs.Handles.{handle, own_word}
use Rattle.vsd_rule.specs.Moves.{after_load_handle, after_bind, after_unbind}
use Rattle.vsd_rule.specs.Facts.{Knows, KnowsOneBinding, FindsHandle}
use Rattle.vsd_table.specs.StepKind.{Kind}

-- ---- a load

pub record LoadedHandle (before : View) (row found : ℕ) (after : View) : Type 0 where
  pub packs : (w : HandleWord) × IsHandleWordPacking w found
  pub view : (w : HandleWord) → IsHandleWordPacking w found → after ≡ after_load_handle before row w
  pub finds : (w : HandleWord) → IsHandleWordPacking w found → FindsHandle before row w
  pub one_binding : KnowsOneBinding after.handles

abbrev pub load_handle : Kind
load_handle = record {
  Given = ℕ;
  word = λ s row. handles_from s + row;
  first = λ row. 0;
  second = λ row. 0;
  Fits = λ v row. Unit {0};
  Tells = LoadedHandle;
}

-- ---- stores of one of the caller's own

pub record OwnWord : Type 0 where
  pub row : ℕ
  pub generation : ℕ
  pub number : ℕ

pub record Bound (before : View) (x : OwnWord) (after : View) : Type 0 where
  pub view : after ≡ after_bind before x.row x.generation x.number
  pub fresh : (other : ℕ) → ¬ Knows before.handles (handle x.row x.generation) other
  pub one_binding : KnowsOneBinding after.handles

abbrev pub bind : Kind
bind = record {
  Given = OwnWord;
  word = λ s x. handles_from s + x.row;
  first = λ x. packed_handle_word (own_word x.generation x.number true);
  second = λ x. 0;
  Fits = λ v x. HandleWordInRange (own_word x.generation x.number true);
  Tells = λ before x found after. Bound before x after;
}

pub record Unbound (before : View) (x : OwnWord) (after : View) : Type 0 where
  pub view : after ≡ after_unbind before x.row x.generation x.number
  pub one_binding : KnowsOneBinding after.handles

abbrev pub unbind : Kind
unbind = record {
  Given = OwnWord;
  word = λ s x. handles_from s + x.row;
  first = λ x. packed_handle_word (own_word x.generation x.number false);
  second = λ x. 0;
  Fits = λ v x. HandleWordInRange (own_word x.generation x.number false);
  Tells = λ before x found after. Unbound before x after;
}
