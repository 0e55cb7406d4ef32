-- The match and the body, by numbers.
use Rattle.std.specs.Prelude.{◌≡◌, ℕ, ◌<◌, ◌≤◌, ◌⊎◌, List, length, Option, Some, None, slice_index}
use Rattle.vsd_ast.specs.declared.declarations.Decl.{Decl}
use Rattle.vsd_roots.specs.Slots.{IsRoot}
use Rattle.vsd_roots.specs.declared.place.Place.{Place}
use Rattle.vsd_types.specs.TypeList.{TypeList}
use Rattle.vsd_types.specs.Types.{type_at}
use Rattle.vsd_slots.specs.declared.entries.ClosedMethod.{ClosedMethod}
use Rattle.vsd_itable.specs.Bodies.{DeclaresNone, HasNoBody, IsBody, IsLast}
use Rattle.vsd_itable.specs.Matching.{Suits}
use Rattle.vsd_itable.specs.Tables.{IsListed, found_with}

-- the place of a number in a list, where it is there
abbrev pub IsPlaceOf : List ℕ → ℕ → Option ℕ → Type 0
IsPlaceOf ns n None = (p : ℕ) → p < length ns → slice_index ns p ≡ n → ⊥
IsPlaceOf ns n (Some p) = (p < length ns) × (slice_index ns p ≡ n)

module _ (c : TypeList) where
  -- the interface at a place of a list of numbers suits the type of another number
  abbrev pub SuitsAt : List ℕ → ℕ → ℕ → Type 0
  SuitsAt map j p = Suits c.decls.list (type_at c.types j) (type_at c.types (slice_index map p))

  -- the first place at which one suits
  abbrev pub IsFirstPlace : List ℕ → ℕ → Option ℕ → Type 0
  IsFirstPlace map j None = (p : ℕ) → p < length map → SuitsAt map j p → ⊥
  IsFirstPlace map j (Some p) = (p < length map) × SuitsAt map j p × ((q : ℕ) → q < p → SuitsAt map j q → ⊥)

  -- a place of the number itself; where it isn't there, the first place at which one suits
  abbrev pub IsMatchPlace : List ℕ → ℕ → Option ℕ → Type 0
  IsMatchPlace map j found = (((found ≡ None) → ⊥) × IsPlaceOf map j found) ⊎ (IsPlaceOf map j None × IsFirstPlace map j found)

  -- the last method of a type with this root
  abbrev pub IsOwnBody : ℕ → Place → Option ℕ → Type 0
  IsOwnBody t root None = DeclaresNone c.decls.list root (type_at c.types t)
  IsOwnBody t root (Some m) = IsListed c (record { class = t; method = m }) × IsLast c.decls.list root (type_at c.types t) m

  -- what the slot with this root holds in a type
  abbrev pub IsBodyAt : ℕ → Place → Option ClosedMethod → Type 0
  IsBodyAt t root None = HasNoBody c.decls.list root (type_at c.types t)
  IsBodyAt t root (Some body) = IsListed c body × IsBody c.decls.list root (type_at c.types t) (found_with c.types body)

-- the last of the first methods of a declaration with this root
abbrev pub IsLastWith : List Decl → ℕ → Place → ℕ → Option ℕ → Type 0
IsLastWith ds decl root count None = (m : ℕ) → m < count → IsRoot ds (record { decl = decl; method = m }) root → ⊥
IsLastWith ds decl root count (Some m) = (m < count) × IsRoot ds (record { decl = decl; method = m }) root × ((n : ℕ) → n < count → IsRoot ds (record { decl = decl; method = n }) root → n ≤ m)
