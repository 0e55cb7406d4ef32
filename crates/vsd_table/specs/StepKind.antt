-- The form that all kinds of step have: a step is known by its word and its operands, and says what its seat becomes.
use Rattle.std.specs.Prelude.{◌≡◌, ℕ}
use Rattle.atomic_table.specs.Table.{Step, Me}
use Rattle.vsd_rule.specs.declared.sizes.Sizes.{Sizes}
use Rattle.vsd_rule.specs.declared.view.View.{View}
use Rattle.vsd_rule.specs.Facts.{SmallEpoch}
use Rattle.vsd_table.specs.Consistent.{IsConsistent}

pub record Kind : Type 1 where
  -- what a step of this kind is given
  pub Given : Type 0
  -- the index of its word
  pub word : Sizes → Given → ℕ
  -- its operands: 0 where it has none
  pub first : Given → ℕ
  pub second : Given → ℕ
  -- what it may be given
  pub Fits : View → Given → Type 0
  -- of the view before, what it was given, the word found, and the view after
  pub Tells : View → Given → ℕ → View → Type 0

pub record SameSeat (before after : View) : Type 0 where
  pub key : after.key ≡ before.key
  pub who : after.who ≡ before.who

-- a step with this word and these operands tells of whatever it was given
abbrev pub Learns : Kind → Sizes → ℕ → ℕ → ℕ → View → ℕ → View → Type 0
Learns kind sizes index first second before found after =
    (x : kind.Given) → index ≡ kind.word sizes x → first ≡ kind.first x → second ≡ kind.second x → kind.Fits before x → kind.Tells before x found after

-- the seat stays whose it is, what it has loaded of the epoch is small, all that it knows agrees, and the step tells
abbrev pub made : Kind → {S : Type 0} → Step S → Me S View → ℕ → Me S View → Type 0
made kind st before found after = SameSeat before.0 after.0 × SmallEpoch after.0 × IsConsistent after.0 × Learns kind before.0.key.sizes st.word st.first st.second before.0 found after.0
