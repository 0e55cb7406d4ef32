-- Virtual methods by their places, and tables over them.
use Rattle.std.specs.Prelude.{◌≡◌, ℕ, ◌<◌, List, [], length, Option, Some, IsSomeAnd, slice_get, slice_index_or}
use Rattle.vsd_ast.specs.declared.declarations.Decl.{Decl}
use Rattle.vsd_ast.specs.declared.declarations.Method.{Method}
use Rattle.vsd_roots.specs.declared.place.Place.{Place}

-- the virtual method at this place
pub record IsMethod (ds : List Decl) (p : Place) (m : Method) : Type 0 where
  pub owner : Decl
  pub declared : slice_get ds p.decl ≡ Some owner
  pub listed : slice_get owner.methods p.method ≡ Some m

-- the entry of a method in a table with a row for each declaration
abbrev pub entry : {A : Type 0} → List (List A) → Place → Option A
entry table p = slice_get (slice_index_or table p.decl []) p.method

-- there is an entry for each method, which is related to it
pub record Tabulates {A : Type 0} (ds : List Decl) (Relates : Place → A → Type 0) (table : List (List A)) : Type 0 where
  pub rows : length table ≡ length ds
  pub each : (p : Place) (m : Method) → IsMethod ds p m → IsSomeAnd (entry table p) (Relates p)

-- the same of the row of one declaration
pub record TabulatesRow {A : Type 0} (ds : List Decl) (Relates : Place → A → Type 0) (decl : ℕ) (row : List A) : Type 0 where
  pub each : (p : Place) (m : Method) → p.decl ≡ decl → IsMethod ds p m → IsSomeAnd (slice_get row p.method) (Relates p)

-- a row that is filled for so many of its methods
pub record TabulatesPart {A : Type 0} (ds : List Decl) (Relates : Place → A → Type 0) (decl count : ℕ) (row : List A) : Type 0 where
  pub long : length row ≡ count
  pub each : (p : Place) (m : Method) → p.decl ≡ decl → p.method < count → IsMethod ds p m → IsSomeAnd (slice_get row p.method) (Relates p)

-- a table that is filled for so many declarations
pub record TabulatesFirst {A : Type 0} (ds : List Decl) (Relates : Place → A → Type 0) (count : ℕ) (table : List (List A)) : Type 0 where
  pub rows : length table ≡ count
  pub each : (p : Place) (m : Method) → p.decl < count → IsMethod ds p m → IsSomeAnd (entry table p) (Relates p)
