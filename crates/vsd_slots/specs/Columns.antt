-- What a class has for each method of an interface.
use Rattle.std.specs.Prelude.{◌≡◌, ℕ, ◌<◌, List, length, Option, slice_index_or}
use Rattle.vsd_terms.specs.declared.term.Term.{Term}
use Rattle.vsd_types.specs.TypeList.{TypeList}
use Rattle.vsd_types.specs.Types.{type_at}
use Rattle.vsd_slots.specs.Entries.{HasNothing, IsEntry, nothing}
use Rattle.vsd_slots.specs.Refusals.{method_count}
use Rattle.vsd_slots.specs.declared.entries.Entry.{Entry}

-- so many entries over no class
pub record IsBlank (count : ℕ) (column : List Entry) : Type 0 where
  pub long : length column ≡ count
  pub each : (m : ℕ) → m < count → slice_index_or column m nothing ≡ nothing

-- so many entries, each made from that above it
pub record AreEach (made : ℕ → Entry → Entry → Type 0) (count : ℕ) (above column : List Entry) : Type 0 where
  pub long : length column ≡ count
  pub each : (m : ℕ) → m < count → made m (slice_index_or above m nothing) (slice_index_or column m nothing)

-- the entry at a place is made from the one that was there, and the others are as they were
pub record IsMadeAt (made : ℕ → Entry → Entry → Type 0) (m : ℕ) (old new : List Entry) : Type 0 where
  pub long : length new ≡ length old
  pub here : made m (slice_index_or old m nothing) (slice_index_or new m nothing)
  pub others : (n : ℕ) → (n ≡ m → ⊥) → slice_index_or new n nothing ≡ slice_index_or old n nothing

-- the entries of a type, over those above it, for the methods of an interface
pub record IsColumn (c : TypeList) (o : Option Term) (i : ℕ) (column : List Entry) : Type 0 where
  pub long : length column ≡ method_count c.decls.list (type_at c.types i)
  pub each : (m : ℕ) → m < length column → IsEntry c o i m (slice_index_or column m nothing)

-- the class t has nothing of its own for the methods of the interface i
abbrev pub HasNone : TypeList → ℕ → ℕ → Type 0
HasNone c t i = (m : ℕ) → m < method_count c.decls.list (type_at c.types i) → HasNothing c t i m
