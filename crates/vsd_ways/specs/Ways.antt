-- At which arguments each interface leads to each of several owners.
use Rattle.std.specs.Prelude.{◌≡◌, ℕ, ◌↔◌, ◌<◌, true, List, [], length, Some, slice_get, slice_index_or}
use Rattle.vsd_terms.specs.declared.term.Term.{Term}
use Rattle.vsd_terms.specs.declared.term.Term.TheVariants.{Named}
use Rattle.vsd_ast.specs.declared.declarations.Decl.{Decl}
use Rattle.vsd_ast.specs.Lookup.{place_of}
use Rattle.vsd_ways.specs.Known.{MeetsFor, Way}
use Rattle.vsd_ways.specs.Leads.{LeadsTo}

-- the interface leads to each owner exactly at the arguments that meet a way marked for it
pub record IsWays (ds : List Decl) (owners : List Term) (interface : Decl) (ways : List Way) : Type 0 where
  pub exact : (o : ℕ) (owner : Term) → slice_get owners o ≡ Some owner → (args : List Term) → length args ≡ length interface.params → MeetsFor ways o args ↔ LeadsTo ds (Named interface.name args) owner

-- the ways of each interface, by the number of its declaration
pub record AreWays (ds : List Decl) (owners : List Term) (table : List (List Way)) : Type 0 where
  pub count : length table ≡ length ds
  pub each : (n : ℕ) (interface : Decl) → slice_get ds n ≡ Some interface → interface.is_interface ≡ true → IsWays ds owners interface (slice_index_or table n [])

-- the ways of the interfaces before this place of an order
pub record AreWaysBefore (ds : List Decl) (owners : List Term) (order : List ℕ) (i : ℕ) (table : List (List Way)) : Type 0 where
  pub count : length table ≡ length ds
  pub each : (j n : ℕ) (interface : Decl) → j < i → slice_get order j ≡ Some n → slice_get ds n ≡ Some interface → interface.is_interface ≡ true → IsWays ds owners interface (slice_index_or table n [])

-- the ways of the interface that a term names are there
abbrev pub IsReady : List Decl → List Term → List (List Way) → Term → Type 0
IsReady ds owners table t = (name : ℕ) (args : List Term) → t ≡ Named name args → (interface : Decl) → slice_get ds (place_of ds name) ≡ Some interface → IsWays ds owners interface (slice_index_or table (place_of ds name) [])
