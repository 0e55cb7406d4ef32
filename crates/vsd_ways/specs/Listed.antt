-- The interfaces of a class as a list: those that it names, each followed depth first by those that it requires
-- (ECMA-335, II.12.1).
use Rattle.std.specs.Prelude.{◌≡◌, ℕ, zero, suc, List, [], ◌∷◌, map, Option, Some, None, slice_get}
use Rattle.std.specs.List.{flat_map}
use Rattle.vsd_terms.specs.declared.term.Term.{Term}
use Rattle.vsd_terms.specs.Substitution.{subst_of}
use Rattle.vsd_ast.specs.declared.declarations.Decl.{Decl}
use Rattle.vsd_ast.specs.declared.declarations.Located.{Located}
use Rattle.vsd_ast.specs.Lookup.{Head, named, parameter, built_in, head_of, place_of}
use Rattle.vsd_lift.specs.Chain.{arguments_of, envs_of}
use Rattle.vsd_lift.specs.Lift.{lift}
use Rattle.vsd_ways.specs.Found.{SomeOf}

-- the interfaces that a declaration names, at these arguments
abbrev pub named_at : List Term → Option Decl → List Term
named_at args None = []
named_at args (Some x) = map (λ (i : Located). subst_of args i.term) x.interfaces

abbrev pub declaration_in : List Decl → Head → Option Decl
declaration_in ds (named name) = slice_get ds (place_of ds name)
declaration_in ds (parameter place) = None
declaration_in ds (built_in b) = None

module _ (ds : List Decl) where
  -- the interfaces that a type names
  abbrev pub required_of : Term → List Term
  required_of t = named_at (arguments_of t) (declaration_in ds (head_of t))

  -- an interface, followed depth first by those that it requires, down to a height
  unfoldable pub tree : ℕ → Term → List Term
  tree zero i = []
  tree (suc height) i = i ∷ flat_map (tree height) (required_of i)

-- the type stands in the list
abbrev pub StandsIn : List Term → Term → Type 0
StandsIn ts t = SomeOf (λ (u : Term). u ≡ t) ts

-- It stands in the list of what a class of the chain names, each followed by its tree, in the parameters of the lowest
-- class.
pub record StandsListed (ds : List Decl) (height : ℕ) (chain : List ℕ) (owner : Term) : Type 0 where
  pub level : ℕ
  pub number : ℕ
  pub stands : slice_get chain level ≡ Some number
  pub class : Decl
  pub declared : slice_get ds number ≡ Some class
  pub listed : StandsIn (flat_map (tree ds height) (map (λ (i : Located). lift (envs_of ds chain) level i.term) class.interfaces)) owner
