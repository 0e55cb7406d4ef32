-- Where the methods of a name begin among those of a declaration.
use Rattle.std.specs.Prelude.{◌≡◌, ℕ, ◌+◌, ◌<◌, ◌≤◌, List, [], length, Some, slice_get, slice_index_or}
use Rattle.vsd_ast.specs.declared.declarations.Decl.{Decl}
use Rattle.vsd_ast.specs.declared.declarations.Method.{Method}

-- the name of each method is among these names, and no later than the method is among the methods
abbrev pub AreNamesOf : List Method → List (List ℕ) → Type 0
AreNamesOf methods names = (place : ℕ) (m : Method) → slice_get methods place ≡ Some m → (n : ℕ) × (slice_get names n ≡ Some m.name) × (n ≤ place)

-- the same of the methods before a place
pub record AreNamesTo (methods : List Method) (count : ℕ) (names : List (List ℕ)) : Type 0 where
  pub few : length names ≤ count
  pub each : (place : ℕ) (m : Method) → place < count → slice_get methods place ≡ Some m → (n : ℕ) × (slice_get names n ≡ Some m.name) × (n ≤ place)

-- such names for each declaration
pub record AreMethodNames (ds : List Decl) (names : List (List (List ℕ))) : Type 0 where
  pub count : length names ≡ length ds
  pub each : (place : ℕ) (x : Decl) → slice_get ds place ≡ Some x → AreNamesOf x.methods (slice_index_or names place [])

-- a name is there; the names before keep their places
pub record Adds (old new : List (List ℕ)) (name : List ℕ) : Type 0 where
  pub kept : (n : ℕ) (x : List ℕ) → slice_get old n ≡ Some x → slice_get new n ≡ Some x
  pub there : (n : ℕ) × (slice_get new n ≡ Some name)
  pub few : length new ≤ length old + 1
