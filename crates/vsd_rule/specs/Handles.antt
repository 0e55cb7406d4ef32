-- The rule on handles: what each handle names, and what each seat knows of it.
use Rattle.std.specs.Prelude.{◌≡◌, ℕ, ◌+◌, ◌<◌, ◌≤◌, Bool, true, false, List, [], ◌∷◌, length, slice_index, slice_index_or}
use mathlib.Core.Option.{some}
use lib.ListN.{get_elem?}
use Rattle.vsd_words.specs.declared.handle.Handle.{Handle}
use Rattle.vsd_words.specs.declared.handle_word.HandleWord.{HandleWord}
use Rattle.vsd_words.specs.HandleWord.{IsHandleWordPacking}
use Rattle.vsd_rule.specs.declared.key.Key.{Key}
use Rattle.vsd_rule.specs.declared.handle_view.Binding.{Binding}
use Rattle.vsd_rule.specs.declared.handle_view.HandleView.{HandleView}
use Rattle.vsd_rule.specs.declared.view.Who.{Who}
use Rattle.vsd_rule.specs.declared.view.Who.TheVariants.{Root, Caller}
use Rattle.vsd_rule.specs.Layout.{handle_rows, first_row}
use Rattle.vsd_rule.specs.Lists.{host_type}

-- what a seat knows of handles, and whose seat it is
pub record HandleSeat : Type 0 where
  pub who : Who
  pub handles : HandleView

-- the word of a handle row that was never bound
abbrev pub blank_word : HandleWord
blank_word = record { generation = 0; number = 0; immortal = false; live = false }

-- the word of a host, which stays as it is at opening
abbrev pub host_word : Key → ℕ → HandleWord
host_word k host = record { generation = 1; number = host_type k host; immortal = true; live = true }

-- a handle word as a caller stores it, live or not
abbrev pub own_word : ℕ → ℕ → Bool → HandleWord
own_word generation number live = record { generation = generation; number = number; immortal = false; live = live }

abbrev pub handle : ℕ → ℕ → Handle
handle row generation = record { row = row; generation = generation }

abbrev pub binding_for : Handle → ℕ → Binding
binding_for h number = record { handle = h; number = number }

-- The i-th of a caller's own handle words, as the caller knows it
abbrev pub owned_word : HandleView → ℕ → HandleWord
owned_word n i = slice_index_or n.owned i blank_word

module _ (k : Key) (gen : ℕ → ℕ) (name : ℕ → ℕ → ℕ) where
  -- a handle that was bound to a type
  pub record WasBound (h : Handle) : Type 0 where
    pub row : h.row < handle_rows k.sizes
    pub some : 0 < h.generation
    pub old : h.generation ≤ gen h.row

  pub record IsBinding (x : Binding) : Type 0 where
    pub bound : WasBound x.handle
    pub number : x.number ≡ name x.handle.row x.handle.generation
    pub typed : x.number < k.world.types

  abbrev pub AreBindings : List Binding → Type 0
  AreBindings [] = Unit {0}
  AreBindings (x ∷ xs) = IsBinding x × AreBindings xs

  module _ (handle_word_of : ℕ → HandleWord) where
    -- a caller knows its own 64 words; the words of callers to come are those of opening
    abbrev pub KnowsWords : Who → HandleView → Type 0
    KnowsWords (Root next) n = (row : ℕ) → first_row k.sizes next ≤ row → row < handle_rows k.sizes → handle_word_of row ≡ blank_word
    KnowsWords (Caller number) n = (length n.owned ≡ 64) × ((i : ℕ) → i < 64 → owned_word n i ≡ handle_word_of (first_row k.sizes number + i))

    pub record TrueHandleView (d : HandleSeat) : Type 0 where
      pub bindings : AreBindings d.handles.bindings
      pub words : KnowsWords d.who d.handles

    pub record HandleRow (row : ℕ) : Type 0 where
      pub generation : (handle_word_of row).generation ≡ gen row
      pub nothing : gen row ≡ 0 → handle_word_of row ≡ blank_word
      pub typed : 0 < gen row → (handle_word_of row).number < k.world.types
      pub number : 0 < gen row → (handle_word_of row).number ≡ name row (gen row)

-- `gen` is the present generation of each row, and `name` the type of each row at each generation
pub record Handles (k : Key) (gen : ℕ → ℕ) (name : ℕ → ℕ → ℕ) (words : List ℕ) (seats : List HandleSeat) : Type 0 where
  pub handle_word_of : ℕ → HandleWord
  pub word : (row : ℕ) → row < handle_rows k.sizes → IsHandleWordPacking (handle_word_of row) (slice_index words row)
  pub row : (row : ℕ) → row < handle_rows k.sizes → HandleRow k gen name handle_word_of row
  pub host : (host : ℕ) → host < k.sizes.hosts → handle_word_of host ≡ host_word k host
  pub mortal : (row : ℕ) → k.sizes.hosts ≤ row → row < handle_rows k.sizes → (handle_word_of row).immortal ≡ false
  pub each : (seat : ℕ) (d : HandleSeat) → get_elem? seats seat ≡ some d → TrueHandleView k gen name handle_word_of d
