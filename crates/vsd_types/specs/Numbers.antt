-- Types by their numbers, which are their places in a list.
use Rattle.std.specs.Prelude.{◌≡◌, ℕ, List, map, Some, slice_get}
use Rattle.vsd_terms.specs.declared.term.Term.{Term}

-- these numbers are the places of these types, one by one
abbrev pub AreNumbers : List Term → List ℕ → List Term → Type 0
AreNumbers types numbers ts = map (slice_get types) numbers ≡ map Some ts

-- no type stands at two places
abbrev pub IsDistinct : List Term → Type 0
IsDistinct types = (i j : ℕ) (t : Term) → slice_get types i ≡ Some t → slice_get types j ≡ Some t → i ≡ j
