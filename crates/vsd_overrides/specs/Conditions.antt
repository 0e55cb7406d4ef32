-- The conditions on overrides that lawful declarations don't show (ECMA-335, II.10.3.2, II.12.2).
use Rattle.std.specs.Prelude.{◌≡◌, ℕ, ◌<◌, List, Some, slice_get}
use Rattle.vsd_terms.specs.declared.term.Term.{Term}
use Rattle.vsd_least.specs.Least.{AtSome}
use Rattle.vsd_ast.specs.declared.declarations.Decl.{Decl}
use Rattle.vsd_ast.specs.declared.declarations.Override.{Override}
use Rattle.vsd_overrides.specs.Implements.{Implements}
use Rattle.vsd_overrides.specs.Targets.{ImplementsNothing}
use Rattle.vsd_overrides.specs.declared.target.Target.{Target}

module _ (ds : List Decl) (decl : ℕ) (x : Decl) where
  abbrev pub UnknownAt : ℕ → Override → ℕ → Type 0
  UnknownAt place o line = ImplementsNothing ds decl x o × (line ≡ o.line)

  -- the line of an override of the declaration that implements nothing
  abbrev pub ShowsUnknownOverride : ℕ → Type 0
  ShowsUnknownOverride = AtSome x.overrides UnknownAt

  -- an override of the declaration before this place implements this method of this owner
  pub record IsImplemented (place : ℕ) (interface : Term) (method : ℕ) : Type 0 where
    pub earlier : ℕ
    pub before : earlier < place
    pub other : Override
    pub there : slice_get x.overrides earlier ≡ Some other
    pub target : Target
    pub implements : Implements ds decl x other target
    pub owner : other.owner ≡ interface
    pub slot : target.slot ≡ method

  -- the override implements the method that an earlier one with the same owner implements
  pub record Repeats (place : ℕ) (o : Override) : Type 0 where
    pub target : Target
    pub implements : Implements ds decl x o target
    pub implemented : IsImplemented place o.owner target.slot

  abbrev pub RepeatedAt : ℕ → Override → ℕ → Type 0
  RepeatedAt place o line = Repeats place o × (line ≡ o.line)

  -- the line of an override of the declaration that repeats an earlier one
  abbrev pub ShowsRepeatedOverride : ℕ → Type 0
  ShowsRepeatedOverride = AtSome x.overrides RepeatedAt
