-- What an unload leaves of what its caller knows of handles.
use Rattle.std.proofs.Common.{◌≡◌, ◌≢◌, ◌↔◌, ℕ, ◌-◌, ◌+◌, ◌<◌, ◌≤◌, true, false, slice_index_or, sym, ◌∙◌, ap, subst, arith}
use Rattle.std.proofs.lemmas.Bool.{eqb-true}
use Rattle.std.proofs.lemmas.List.{get_or-set_other}
use Rattle.vsd_words.specs.declared.handle.Handle.{Handle}
use Rattle.vsd_words.specs.declared.handle_word.HandleWord.{HandleWord}
use Rattle.vsd_rule.specs.declared.step.Doing.{Doing}
use Rattle.vsd_rule.specs.declared.view.View.{View}
use Rattle.vsd_rule.specs.Layout.{first_row}
use Rattle.vsd_rule.specs.Seats.{caller_of, is_caller}
use Rattle.vsd_rule.specs.Handles.{blank_word, own_word}
use Rattle.vsd_rule.specs.Moves.{own_index, after_unbind}
use Rattle.vsd_rule.specs.Facts.{IsOwn}
use Rattle.vsd_rule.specs.RowSteps.{after_unpin}
use Rattle.vsd_table.specs.declared.seated.Seated.{Seated}
use Rattle.vsd_table.specs.Seating.{view_of}
use Rattle.vsd_trails.specs.Words.{is_live_at}
use Rattle.vsd_trails.specs.declared.answers.Swept.{Swept}
use Rattle.vsd_trails.specs.declared.answers.Swept.TheVariants as swept
use Rattle.vsd_trails.proofs.Loads.{and_both}
use Rattle.vsd_rows.specs.Makes.{StaysCaller}
use Rattle.vsd_rows.specs.Hands.{Pins, Sweeps}
use Rattle.vsd_rows.specs.Leaving.{Goes}
use Rattle.vsd_handles.specs.Binding.{Unbinds}
use Rattle.vsd_handles.specs.OwnRows.{IsOwned, own_row_word}
use Rattle.vsd_unloads.specs.Unloads.{IsUnloaded, LetsGo}

-- ---- the same caller of the same table

module _ (v w : View) (key : w.key ≡ v.key) (who : w.who ≡ v.who) where
  same_first : first_row w.key.sizes (caller_of w.who) ≡ first_row v.key.sizes (caller_of v.who)
  same_first = λ i. first_row (key i).sizes (caller_of (who i))

  pub own_on : (row : ℕ) → IsOwn v row → IsOwn w row
  own_on row own = record {
    caller = ap is_caller who ∙ own.caller;
    from = subst (λ (n : ℕ). n ≤ row) (sym same_first) own.from;
    to = subst (λ (n : ℕ). row < n + 64) (sym same_first) own.to;
  }

  index_on : (row : ℕ) → own_index w row ≡ own_index v row
  index_on row = ap (λ (n : ℕ). row - n) same_first

  pub word_on : (row : ℕ) → w.handles ≡ v.handles → own_row_word w row ≡ own_row_word v row
  word_on row handles = λ i. slice_index_or (handles i).owned (index_on row i) blank_word

  pub owned_on : (h : Handle) → w.handles ≡ v.handles → IsOwned v h → IsOwned w h
  owned_on h handles owned = record { row = own_on h.row owned.row; live = ap (is_live_at h.generation) (word_on h.row handles) ∙ owned.live }

-- ---- what steps leave of handles

pub pins_handles : (old new : Seated) (doing : Doing) → Pins old new doing → (view_of new).handles ≡ (view_of old).handles
pins_handles old new doing pins = ap (λ (v : View). v.handles) pins.step.view

pub sweeps_go : (v w : View) (s : Swept) → Sweeps v w s → Goes v w
sweeps_go v w swept.Empty sweeps = record { pinned = ap (λ (x : View). x.rows.pinned) sweeps; handles = ap (λ (x : View). x.handles) sweeps }
sweeps_go v w (swept.Blocked caller epoch) sweeps = record { pinned = ap (λ (x : View). x.rows.pinned) sweeps; handles = ap (λ (x : View). x.handles) sweeps }
sweeps_go v w (swept.Freed row) sweeps = record { pinned = ap (λ (x : View). x.rows.pinned) sweeps; handles = ap (λ (x : View). x.handles) sweeps }

-- after the store of the word
pub handles_after : (two three four five new : View) (s : Swept) → Goes two three → Goes three four → five ≡ after_unpin four → Sweeps five new s → new.handles ≡ two.handles
handles_after two three four five new s cells buckets unpins sweeps =
    (sweeps_go five new s sweeps).handles ∙ (ap (λ (v : View). v.handles) unpins ∙ (buckets.handles ∙ cells.handles))

-- the store of the word, right after the pin
pub lets_go : (old one two : Seated) (doing : Doing) (h : Handle) → Pins old one doing → Unbinds one two h → LetsGo (view_of old) (view_of two) h
lets_go old one two doing h pins unbinds =
    ap (λ (v : View). v.handles) unbinds.view
    ∙ ap (λ (v : View). (after_unbind v h.row h.generation (own_row_word v h.row).number).handles) pins.step.view

-- ---- the handle afterwards, and the others

-- the word that was stored is there at the end
pub word_after : (old one two new : Seated) (h : Handle) → StaysCaller old one → StaysCaller one two → StaysCaller old new → (view_of one).handles ≡ (view_of old).handles → (view_of new).handles ≡ (view_of two).handles
    → own_row_word (view_of two) h.row ≡ own_word h.generation (own_row_word (view_of one) h.row).number false
    → own_row_word (view_of new) h.row ≡ own_word h.generation (own_row_word (view_of old) h.row).number false
word_after old one two new h pinned stored whole before after word =
    word_on (view_of two) (view_of new) (whole.key ∙ sym (stored.key ∙ pinned.key)) (whole.who ∙ sym (stored.who ∙ pinned.who)) h.row after
    ∙ (word ∙ ap (λ (w : HandleWord). own_word h.generation w.number false) (word_on (view_of old) (view_of one) pinned.key pinned.who h.row before))

pub is_unloaded : (v : View) (h : Handle) (number : ℕ) → IsOwn v h.row → own_row_word v h.row ≡ own_word h.generation number false → IsUnloaded v h
is_unloaded v h number own word = record { row = own; gone = ap (is_live_at h.generation) word }

module _ (old new : View) (h : Handle) (key : new.key ≡ old.key) (who : new.who ≡ old.who) (own : IsOwn old h.row) (live : is_live_at h.generation (own_row_word old h.row) ≡ true) (handles : LetsGo old new h)
    (word : own_row_word new h.row ≡ own_word h.generation (own_row_word old h.row).number false) where
  other_index : (row : ℕ) → IsOwn old row → row ≢ h.row → own_index old row ≢ own_index old h.row
  other_index row its other same =
      let low : first_row old.key.sizes (caller_of old.who) ≤ row = its.from in
      let from : first_row old.key.sizes (caller_of old.who) ≤ h.row = own.from in
      other (omega arith)

  other_word : (row : ℕ) → IsOwn old row → row ≢ h.row → own_row_word new row ≡ own_row_word old row
  other_word row its other =
      let w = own_word h.generation (own_row_word old h.row).number false in
      (λ i. slice_index_or (handles i).owned (index_on old new key who row i) blank_word)
      ∙ get_or-set_other old.handles.owned (own_index old h.row) (own_index old row) w blank_word (other_index row its other)

  -- two handles that one row is live at are one
  one_live : (g : Handle) → g.row ≡ h.row → is_live_at g.generation (own_row_word old g.row) ≡ true → g ≡ h
  one_live g rows its =
      let at_h : is_live_at g.generation (own_row_word old h.row) ≡ true = subst (λ (row : ℕ). is_live_at g.generation (own_row_word old row) ≡ true) rows its in
      let first = eqb-true (own_row_word old h.row).generation g.generation (and_both _ _ at_h).1 in
      let second = eqb-true (own_row_word old h.row).generation h.generation (and_both _ _ live).1 in
      let made : ℕ → ℕ → Handle = λ row generation. record { row = row; generation = generation } in
      λ c. made (rows c) ((sym first ∙ second) c)

  still_owned : (g : Handle) → IsOwned old g → g ≢ h → IsOwned new g
  still_owned g owned other =
      let rows : g.row ≢ h.row = λ same. other (one_live g same owned.live) in
      record { row = own_on old new key who g.row owned.row; live = ap (is_live_at g.generation) (other_word g.row owned.row rows) ∙ owned.live }

  was_owned : (g : Handle) → IsOwned new g → IsOwned old g × (g ≢ h)
  was_owned g owned =
      let its : IsOwn old g.row = own_on new old (sym key) (sym who) g.row owned.row in
      let rows : g.row ≢ h.row = λ same.
      let dead : is_live_at g.generation (own_row_word new g.row) ≡ false = ap (λ (row : ℕ). is_live_at g.generation (own_row_word new row)) same ∙ ap (is_live_at g.generation) word in
      let clash = sym owned.live ∙ dead in
      cc in
      (record { row = its; live = ap (is_live_at g.generation) (sym (other_word g.row its rows)) ∙ owned.live }, λ same. rows (ap (λ (x : Handle). x.row) same))

  pub owns_others : (g : Handle) → IsOwned new g ↔ (IsOwned old g × (g ≢ h))
  owns_others g = (was_owned g, λ both. still_owned g both.0 both.1)
