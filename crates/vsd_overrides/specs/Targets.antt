-- What is found of each override.
use Rattle.std.specs.Prelude.{◌≡◌, ℕ, List, [], length, All, IsTrue, Option, Some, MatchOption, IsSomeAnd, slice_get, slice_index_or}
use Rattle.vsd_ast.specs.declared.declarations.Decl.{Decl}
use Rattle.vsd_ast.specs.declared.declarations.Override.{Override}
use Rattle.vsd_ast.specs.Lookup.{is_lawful}
use Rattle.vsd_overrides.specs.Implements.{Implements, Means}
use Rattle.vsd_overrides.specs.declared.target.Target.{Target}

-- each type that owners of overrides name is declared, with as many arguments as it takes
abbrev pub HasLawfulOwners : List Decl → Decl → Type 0
HasLawfulOwners ds x = All (λ (o : Override). IsTrue (is_lawful ds o.owner)) x.overrides

abbrev pub AreLawfulOwners : List Decl → Type 0
AreLawfulOwners ds = All (HasLawfulOwners ds) ds

abbrev pub MeansNothing : List Decl → Decl → Override → Type 0
MeansNothing ds x o = (t : Target) → ¬ Means ds x o t

abbrev pub ImplementsNothing : List Decl → ℕ → Decl → Override → Type 0
ImplementsNothing ds decl x o = (t : Target) → ¬ Implements ds decl x o t

-- what an override implements, if anything
abbrev pub IsTarget : List Decl → ℕ → Decl → Override → Option Target → Type 0
IsTarget ds decl x o found = MatchOption found (ImplementsNothing ds decl x o) (Implements ds decl x o)

-- there is an entry for each override of a declaration
pub record AreTargets (ds : List Decl) (decl : ℕ) (x : Decl) (row : List (Option Target)) : Type 0 where
  pub long : length row ≡ length x.overrides
  pub each : (i : ℕ) (o : Override) → slice_get x.overrides i ≡ Some o → IsSomeAnd (slice_get row i) (IsTarget ds decl x o)

-- a row for each declaration
pub record TabulatesTargets (ds : List Decl) (table : List (List (Option Target))) : Type 0 where
  pub rows : length table ≡ length ds
  pub each : (n : ℕ) (x : Decl) → slice_get ds n ≡ Some x → AreTargets ds n x (slice_index_or table n [])
