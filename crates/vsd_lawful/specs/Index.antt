-- Where the declaration of a name stands.
use Rattle.std.specs.Prelude.{◌≡◌, ℕ, ◌+◌, cond, nat_eq, nat_lt, List, [], ◌∷◌, length, Option, Some, None, unwrap_or, slice_index_or}
use Rattle.vsd_ast.specs.declared.declarations.Decl.{Decl}

-- the place of the first declaration with this name, where the places of the list begin with this one
abbrev pub place_from : ℕ → List Decl → ℕ → Option ℕ
place_from first [] name = None
place_from first (x ∷ xs) name = cond (nat_eq x.name name) (Some first) (place_from (first + 1) xs name)

-- the place of the first declaration with this name
abbrev pub place_in : List Decl → ℕ → Option ℕ
place_in = place_from 0

-- the place, where it is one of so many
abbrev pub place_below : ℕ → ℕ → Option ℕ
place_below place count = cond (nat_lt place count) (Some place) None

-- a table that has the place of each name's declaration, and the count of declarations where there is none
pub record IsIndex (ds : List Decl) (places : List ℕ) : Type 0 where
  pub each : (name : ℕ) → slice_index_or places name (length ds) ≡ unwrap_or (place_in ds name) (length ds)
