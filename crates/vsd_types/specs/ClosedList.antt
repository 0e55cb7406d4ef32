-- What a closed list is, said without the walk that makes it.
use Rattle.std.specs.Prelude.{◌≡◌, ℕ, ◌<◌, ◌⊎◌, List, [], ◌++◌, All, Contains, Some, slice_get}
use Rattle.std.specs.List.{flat_map}
use Rattle.indexmap.specs.IndexSet.{insert_all}
use Rattle.vsd_terms.specs.declared.term.Term.{Term}
use Rattle.vsd_terms.specs.Equality.{term_eq}
use Rattle.vsd_ast.specs.declared.declarations.Decl.{Decl}
use Rattle.vsd_types.specs.Numbers.{IsDistinct}
use Rattle.vsd_types.specs.Types.{children}

-- what listed types lead to is listed
abbrev pub IsClosedUnder : List Decl → List Term → Type 0
IsClosedUnder ds types = All (λ t. All (Contains types) (children ds t)) types

-- the place of a type that is no start leads back to one that comes earlier
pub record IsReached (ds : List Decl) (types : List Term) (place : ℕ) (t : Term) : Type 0 where
  pub from : ℕ
  pub by : Term
  pub earlier : from < place
  pub listed : slice_get types from ≡ Some by
  pub child : Contains (children ds by) t

-- The types that are listed are the start's and what listed types lead to, and no others, each once and in order of
-- first appearance.
pub record IsClosedList (ds : List Decl) (start types : List Term) : Type 0 where
  pub distinct : IsDistinct types
  pub starts : All (Contains types) start
  pub closed : IsClosedUnder ds types
  pub reached : (i : ℕ) (t : Term) → slice_get types i ≡ Some t → Contains start t ⊎ IsReached ds types i t
  pub order : types ≡ insert_all term_eq [] (start ++ flat_map (children ds) types)
