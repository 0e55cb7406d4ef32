-- What loads and unloads make of the handles that their caller owns.
use Rattle.std.specs.Prelude.{◌≡◌, ◌≢◌, ◌⊎◌, ◌<◌, ℕ, List, true, false, None, position, slice_set, sum_by}
use Rattle.std.specs.Int.{from_bool}
use Rattle.vsd_words.specs.declared.handle.Handle.{Handle}
use Rattle.vsd_words.specs.declared.handle_word.HandleWord.{HandleWord}
use Rattle.vsd_rule.specs.declared.view.View.{View}
use Rattle.vsd_rule.specs.Handles.{own_word}
use Rattle.vsd_rule.specs.Moves.{own_index}
use Rattle.vsd_rule.specs.Facts.{IsOwn}
use Rattle.vsd_handles.specs.OwnRows.{own_row_word, IsOwned, is_spare}

-- The handle is of one of the caller's own rows, and names nothing any more: the row has been bound again, or it is not live.
pub record IsPast (v : View) (h : Handle) : Type 0 where
  pub row : IsOwn v h.row
  pub gone : (h.generation < (own_row_word v h.row).generation) ⊎ ((h.generation ≡ (own_row_word v h.row).generation) × ((own_row_word v h.row).live ≡ false))

-- what the caller owns, and what it owned and has unloaded, stays so
pub record KeepsHandles (old new : View) : Type 0 where
  pub owned : (h : Handle) → IsOwned old h → IsOwned new h
  pub past : (h : Handle) → IsPast old h → IsPast new h

-- The caller has unloaded the one handle; what else it owns, and what it has unloaded before, stays so.
pub record LosesHandle (old new : View) (h : Handle) : Type 0 where
  pub past : IsPast new h
  pub not_owned : IsOwned new h → ⊥
  pub others : (g : Handle) → g ≢ h → IsOwned old g → IsOwned new g
  pub still_past : (g : Handle) → IsPast old g → IsPast new g

-- each of the caller's rows is live or at its last generation
abbrev pub HasNoSpare : View → Type 0
HasNoSpare v = position is_spare v.handles.owned ≡ None

-- The caller has bound the handle to the type: the word of its row has the handle's generation and the type, and is live. The other 63 stay.
abbrev pub HasBound : View → View → Handle → ℕ → Type 0
HasBound old new h number = new.handles.owned ≡ slice_set old.handles.owned (own_index old h.row) (own_word h.generation number true)

-- The caller has unbound the handle: the word of its row keeps its generation and type, and is not live. The other 63 stay.
abbrev pub HasUnbound : View → View → Handle → Type 0
HasUnbound old new h = new.handles.owned ≡ slice_set old.handles.owned (own_index old h.row) (own_word h.generation (own_row_word old h.row).number false)

-- how many of the rows are live
abbrev pub live_in : List HandleWord → ℕ
live_in words = sum_by (λ w. from_bool w.live) words

-- how many loads made the words: each raised the generation of one row by one
abbrev pub loads_in : List HandleWord → ℕ
loads_in words = sum_by (λ w. w.generation) words
