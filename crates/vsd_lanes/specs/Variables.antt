-- Names of variables, numbered by their places.
use Rattle.std.specs.Prelude.{ℕ, List, [], ◌∷◌, ◌++◌, length, position, Option, Some, None}
use Rattle.std.specs.Str.{bytes_eq}

abbrev pub number_or : Option ℕ → ℕ → ℕ
number_or (Some n) next = n
number_or None next = next

-- the number of a name, which is the next one where it has none
abbrev pub number_in : List (List ℕ) → List ℕ → ℕ
number_in names name = number_or (position (bytes_eq name) names) (length names)

abbrev pub added_by : Option ℕ → List (List ℕ) → List ℕ → List (List ℕ)
added_by (Some n) names name = names
added_by None names name = names ++ name ∷ []

-- the names with one more, unless it is there
abbrev pub added : List (List ℕ) → List ℕ → List (List ℕ)
added names name = added_by (position (bytes_eq name) names) names name
