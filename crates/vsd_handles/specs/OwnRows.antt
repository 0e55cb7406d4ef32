-- A caller's own 64 rows of handles, and what it knows of their words.
use Rattle.std.specs.Prelude.{◌≡◌, ◌⊎◌, ◌<◌, ℕ, ◌+◌, ◌&&◌, Bool, true, not, nat_lt, Some, position}
use Rattle.vsd_words.specs.declared.handle.Handle.{Handle}
use Rattle.vsd_words.specs.declared.handle_word.HandleWord.{HandleWord}
use Rattle.vsd_words.specs.Handle.{HandleInRange}
use Rattle.vsd_rule.specs.declared.view.View.{View}
use Rattle.vsd_rule.specs.Handles.{owned_word}
use Rattle.vsd_rule.specs.Moves.{own_index}
use Rattle.vsd_rule.specs.Facts.{IsOwn}
use Rattle.vsd_trails.specs.Words.{is_live_at}

-- the row can be bound: it is not live, and its generation can still rise
abbrev pub is_spare : HandleWord → Bool
is_spare w = not w.live && nat_lt w.generation 4294967295

-- the word of one of the caller's own rows, as the caller knows it
abbrev pub own_row_word : View → ℕ → HandleWord
own_row_word v row = owned_word v.handles (own_index v row)

-- the caller owns the handle: its row is one of the caller's own, and live at the handle's generation
pub record IsOwned (v : View) (h : Handle) : Type 0 where
  pub row : IsOwn v h.row
  pub live : is_live_at h.generation (own_row_word v h.row) ≡ true

-- the handle is a host's, or the caller owns it
abbrev pub IsSure : View → Handle → Type 0
IsSure v h = ((h.row < v.key.sizes.hosts) × (h.generation ≡ 1)) ⊎ IsOwned v h

-- the handle of the lowest row that can be bound, one generation on
pub record IsNext (v : View) (h : Handle) : Type 0 where
  pub row : IsOwn v h.row
  pub lowest : position is_spare v.handles.owned ≡ Some (own_index v h.row)
  pub raised : h.generation ≡ (own_row_word v h.row).generation + 1
  pub in_range : HandleInRange h
