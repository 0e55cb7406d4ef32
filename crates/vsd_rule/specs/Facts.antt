-- What a step tells of its seat, besides what it makes of the seat's view.
use Rattle.std.specs.Prelude.{◌≡◌, ℕ, ◌+◌, ◌<◌, ◌≤◌, ◌^◌, true, replicate, Some}
use mathlib.Core.Option.{some}
use lib.ListN.{get_elem?}
use Rattle.vsd_words.specs.declared.handle.Handle.{Handle}
use Rattle.vsd_words.specs.declared.handle_word.HandleWord.{HandleWord}
use Rattle.vsd_words.specs.HandleWord.{HandleWordInRange}
use Rattle.vsd_rule.specs.declared.handle_view.HandleView.{HandleView}
use Rattle.vsd_rule.specs.declared.view.View.{View}
use Rattle.vsd_rule.specs.Layout.{first_row}
use Rattle.vsd_rule.specs.Seats.{caller_of, is_caller}
use Rattle.vsd_rule.specs.Handles.{blank_word, handle, binding_for, host_word, owned_word}
use Rattle.vsd_rule.specs.Moves.{own_index}

-- the seat has learnt that the handle names the type
abbrev pub Knows : HandleView → Handle → ℕ → Type 0
Knows n h number = (i : ℕ) × (get_elem? n.bindings i ≡ some (binding_for h number))

-- all bindings of one handle that the seat knows are one
abbrev pub KnowsOneBinding : HandleView → Type 0
KnowsOneBinding n = (h : Handle) (number other : ℕ) → Knows n h number → Knows n h other → number ≡ other

-- what a seat has loaded of the epoch can be raised by one
abbrev pub SmallEpoch : View → Type 0
SmallEpoch v = (epoch : ℕ) → v.rows.epoch ≡ Some epoch → epoch ≤ 2 ^ 62

-- none of the seat's own 64 rows was ever bound
abbrev pub HasBoundNone : View → Type 0
HasBoundNone v = v.handles.owned ≡ replicate 64 blank_word

-- the row is one of the seat's own 64
pub record IsOwn (v : View) (row : ℕ) : Type 0 where
  pub caller : is_caller v.who ≡ true
  pub from : first_row v.key.sizes (caller_of v.who) ≤ row
  pub to : row < first_row v.key.sizes (caller_of v.who) + 64

-- what a load of a handle word tells
pub record FindsHandle (v : View) (row : ℕ) (w : HandleWord) : Type 0 where
  pub in_range : HandleWordInRange w
  pub typed : 0 < w.generation → w.number < v.key.world.types
  pub known : (number : ℕ) → Knows v.handles (handle row w.generation) number → w.number ≡ number
  pub host : row < v.key.sizes.hosts → w ≡ host_word v.key row
  pub own : IsOwn v row → w ≡ owned_word v.handles (own_index v row)
