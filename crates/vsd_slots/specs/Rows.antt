-- What a class has for the methods of each of its interfaces: the numbers of columns, which several classes may share.
use Rattle.std.specs.Prelude.{◌≡◌, ℕ, ◌<◌, ◌≤◌, List, [], length, Some, slice_get, slice_index, slice_index_or}
use Rattle.vsd_types.specs.TypeList.{TypeList}
use Rattle.vsd_types.specs.Types.{type_at}
use Rattle.vsd_slots.specs.Columns.{IsColumn}
use Rattle.vsd_slots.specs.declared.entries.Entry.{Entry}

-- this is the number of a column of which this holds
pub record IsNumber (P : List Entry → Type 0) (columns : List (List Entry)) (n : ℕ) : Type 0 where
  pub within : n < length columns
  pub holds : P (slice_index_or columns n [])

-- each column still has its number
pub record Keeps (old new : List (List Entry)) : Type 0 where
  pub longer : length old ≤ length new
  pub same : (n : ℕ) → n < length old → slice_index_or new n [] ≡ slice_index_or old n []

-- this is the number of the column of the class t for the interface i
abbrev pub IsColumnOf : TypeList → List (List Entry) → ℕ → ℕ → ℕ → Type 0
IsColumnOf c columns t i n = IsNumber (IsColumn c (Some (type_at c.types t)) i) columns n

-- the column of the k-th number of a row
abbrev pub column_of : List (List Entry) → List ℕ → ℕ → List Entry
column_of columns row k = slice_index_or columns (slice_index_or row k 0) []

-- the numbers of the columns of the class t for the first of its interfaces
pub record IsRow (c : TypeList) (columns : List (List Entry)) (t : ℕ) (interfaces : List ℕ) (count : ℕ) (row : List ℕ) : Type 0 where
  pub long : length row ≡ count
  pub each : (k : ℕ) → k < count → IsColumnOf c columns t (slice_index interfaces k) (slice_index_or row k 0)

-- the row of the type t has as many columns as the type has interfaces: it is made
abbrev pub IsFull : List (List ℕ) → ℕ → List (List ℕ) → Type 0
IsFull maps t rows = length (slice_index_or rows t []) ≡ length (slice_index_or maps t [])

-- the row of the type t is made, and this is the number of its column for the interface i
pub record IsMade (maps rows : List (List ℕ)) (t i n : ℕ) : Type 0 where
  pub full : IsFull maps t rows
  pub place : ℕ
  pub stands : slice_get (slice_index_or maps t []) place ≡ Some i
  pub number_is : n ≡ slice_index_or (slice_index_or rows t []) place 0

module _ (c : TypeList) (maps : List (List ℕ)) (columns : List (List Entry)) where
  abbrev pub IsRowOf : ℕ → List ℕ → Type 0
  IsRowOf t row = IsRow c columns t (slice_index_or maps t []) (length (slice_index_or maps t [])) row

  -- each row that is made is right
  pub record AreRight (rows : List (List ℕ)) : Type 0 where
    pub count : length rows ≡ length c.types
    pub each : (t : ℕ) → t < length c.types → IsFull maps t rows → IsRowOf t (slice_index_or rows t [])

  -- the row of the type t is made, and those that were are
  pub record Fills (t : ℕ) (rows new : List (List ℕ)) : Type 0 where
    pub right : AreRight new
    pub full : IsFull maps t new
    pub kept : (u : ℕ) → IsFull maps u rows → IsFull maps u new
