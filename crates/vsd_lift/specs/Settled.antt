-- What walks along declarations rest on: written terms, a table of the declarations by name, and no cycle.
use Rattle.std.specs.Prelude.{◌≡◌, ℕ, ◌<◌, ◌≤◌, List, length, All, slice_index}
use Rattle.vsd_ast.specs.declared.declarations.Decl.{Decl}
use Rattle.vsd_ast.specs.Hierarchy.{IsHierarchy}
use Rattle.vsd_ast.specs.Lookup.{place_of}
use Rattle.vsd_ast.specs.WellFormed.{IsDeclaration}

pub record IsSettled (ds : List Decl) (places depths : List ℕ) : Type 0 where
  pub few : length ds ≤ 1024
  -- names are numbered below the length of the table
  pub each : All (IsDeclaration (length places)) ds
  pub numbered : (name : ℕ) → name < length places → slice_index places name ≡ place_of ds name
  pub hierarchy : IsHierarchy ds depths
