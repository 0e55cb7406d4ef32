-- Lists of names, in which a name stands once.
use Rattle.std.specs.Prelude.{◌≡◌, ℕ, ◌≤◌, List, [], ◌∷◌, ◌++◌, length, Some, slice_get, Contains}

-- at most 2,048 names, no two alike
pub record AreNames (names : List (List ℕ)) : Type 0 where
  pub few : length names ≤ 2048
  pub distinct : (i j : ℕ) (name : List ℕ) → slice_get names i ≡ Some name → slice_get names j ≡ Some name → i ≡ j

-- new has this name and the old names, which keep their places: the name comes last where it was not there
pub record AddsName (old new : List (List ℕ)) (name : List ℕ) : Type 0 where
  pub present : Contains old name → new ≡ old
  pub absent : ¬ Contains old name → new ≡ old ++ name ∷ []
