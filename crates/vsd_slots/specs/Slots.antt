-- The slots of all classes, and why there are none.
use Rattle.std.specs.Prelude.{◌≡◌, ℕ, ◌<◌, List, [], length, slice_index_or}
use Rattle.vsd_types.specs.TypeList.{TypeList}
use Rattle.vsd_types.specs.Types.{type_at}
use Rattle.vsd_slots.specs.Entries.{AreParts}
use Rattle.vsd_slots.specs.Refusals.{IsMissing, IsTooMany, IsWhole}
use Rattle.vsd_slots.specs.Rows.{AreRight, IsFull, IsRowOf}
use Rattle.vsd_slots.specs.declared.error.SlotError.{SlotError}
use Rattle.vsd_slots.specs.declared.error.SlotError.TheVariants.{Missing, TooMany, Memory}
use Rattle.vsd_slots.specs.declared.rows.Rows.{Rows}
use Rattle.vsd_slots.specs.declared.slots.Slots.{Slots}

-- a refusal says what is so; want of memory says nothing
abbrev pub IsRefusal : TypeList → SlotError → Type 0
IsRefusal c (Missing class interface method) = IsMissing c class interface method
IsRefusal c (TooMany class) = IsTooMany c class
IsRefusal c Memory = Unit {0}

module _ (c : TypeList) (maps : List (List ℕ)) (end : ℕ) where
  -- Each row that is made is right. Where no type has too many slots, those of the types before the n-th are made.
  pub record AreMade (n : ℕ) (rows : Rows) : Type 0 where
    pub right : AreRight c maps rows.columns rows.numbers
    pub full : end ≡ length c.types → (t : ℕ) → t < n → IsFull maps t rows.numbers

  -- the type t lacks nothing, and its row is made where all are to be
  pub record IsClassDone (t : ℕ) (rows new : Rows) : Type 0 where
    pub right : AreRight c maps new.columns new.numbers
    pub full : end ≡ length c.types → IsFull maps t new.numbers
    pub kept : (u : ℕ) → IsFull maps u rows.numbers → IsFull maps u new.numbers
    pub whole : IsWhole c.decls.list (type_at c.types t)

-- the rows of the types before the n-th
pub record AreFilled (c : TypeList) (n : ℕ) (maps : List (List ℕ)) (rows : Rows) : Type 0 where
  pub long : length rows.numbers ≡ n
  pub each : (t : ℕ) → t < n → IsRowOf c maps rows.columns t (slice_index_or rows.numbers t [])

-- the interfaces of each type, and what implements their methods
pub record AreSlots (c : TypeList) (depths : List ℕ) (s : Slots) : Type 0 where
  pub parts : AreParts c depths s.parts.table.reached s.parts.table.maps s.parts.given
  pub rows : AreFilled c (length c.types) s.parts.table.maps s.rows

-- the same, whatever the depths that they were made by
abbrev pub AreSlotsOf : TypeList → Slots → Type 0
AreSlotsOf c s = (depths : List ℕ) × AreSlots c depths s

-- the numbers of the interfaces of a class and of those above it
abbrev pub map_of : Slots → ℕ → List ℕ
map_of s t = slice_index_or s.parts.table.maps t []
