-- The first slot of a class without implementation.
use Rattle.std.specs.Prelude.{◌≡◌, ℕ, ◌<◌, ◌≤◌, Bool, false, true, List, length, Option, Some, None, slice_get, slice_index_or}
use Rattle.vsd_terms.specs.declared.term.Term.{Term}
use Rattle.vsd_ast.specs.declared.declarations.Decl.{Decl}
use Rattle.vsd_slots.specs.Refusals.{is_concrete}
use Rattle.vsd_slots.specs.Rows.{IsNumber, column_of}
use Rattle.vsd_slots.specs.declared.entries.Entry.{Entry}
use Rattle.vsd_slots.specs.declared.missing.Slot.{Slot}

-- nothing implements the method at this place of a column
pub record Misses (column : List Entry) (m : ℕ) : Type 0 where
  pub entry : Entry
  pub stands : slice_get column m ≡ Some entry
  pub none : entry.implementation ≡ None

-- the first such place
abbrev pub IsFirstNone : List Entry → Option ℕ → Type 0
IsFirstNone column None = (m : ℕ) → Misses column m → ⊥
IsFirstNone column (Some m) = Misses column m × ((n : ℕ) → n < m → Misses column n → ⊥)

-- a row names columns of no more entries than an interface may have methods
abbrev pub AreShort : List (List Entry) → List ℕ → Type 0
AreShort columns row = (k : ℕ) → k < length row → IsNumber (λ column. length column ≤ 256) columns (slice_index_or row k 0)

-- the columns of the marked numbers have no such place
abbrev pub AreWhole : List (List Entry) → List Bool → Type 0
AreWhole columns whole = (n : ℕ) → slice_index_or whole n false ≡ true → IsNumber (λ column. IsFirstNone column None) columns n

-- the first such place of the columns of a row, one after another
abbrev pub IsFirstMissing : List (List Entry) → List ℕ → Option Slot → Type 0
IsFirstMissing columns row None = (k : ℕ) → k < length row → IsFirstNone (column_of columns row k) None
IsFirstMissing columns row (Some s) = (s.place < length row) × IsFirstNone (column_of columns row s.place) (Some s.method) × ((k : ℕ) → k < s.place → IsFirstNone (column_of columns row k) None)

-- the first slot that a class lacks, where it isn't abstract
abbrev pub IsLacking : List Decl → Term → List (List Entry) → List ℕ → Option Slot → Type 0
IsLacking ds t columns row None = is_concrete ds t ≡ true → IsFirstMissing columns row None
IsLacking ds t columns row (Some s) = (is_concrete ds t ≡ true) × IsFirstMissing columns row (Some s)
