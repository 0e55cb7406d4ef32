-- Which interfaces a type has: those that it names, and those that these require (ECMA-335, II.12.1, II.12.2).
use Rattle.std.specs.Prelude.{◌≡◌, ℕ, zero, suc, ◌<◌, List, length, Some, slice_get}
use Rattle.vsd_terms.specs.declared.term.Term.{Term}
use Rattle.vsd_terms.specs.declared.term.Term.TheVariants.{Named}
use Rattle.vsd_terms.specs.Substitution.{subst_of}
use Rattle.vsd_ast.specs.declared.declarations.Decl.{Decl}
use Rattle.vsd_ast.specs.declared.declarations.Located.{Located}
use Rattle.vsd_ast.specs.Lookup.{place_of}
use Rattle.vsd_lift.specs.Chain.{IsChain, envs_of}
use Rattle.vsd_lift.specs.Lift.{lift}
use Rattle.vsd_ways.specs.Found.{SomeOf}

-- the interface v stands, at the type's arguments, after `implements` in the declaration of the type
pub record Requires (ds : List Decl) (u v : Term) : Type 0 where
  pub name : ℕ
  pub args : List Term
  pub is : u ≡ Named name args
  pub declaration : Decl
  pub declared : slice_get ds (place_of ds name) ≡ Some declaration
  pub required : SomeOf (λ (i : Located). v ≡ subst_of args i.term) declaration.interfaces

abbrev pub Path : List Decl → ℕ → Term → Term → Type 0
Path ds zero u v = u ≡ v
Path ds (suc n) u v = (w : Term) × (Requires ds u w × Path ds n w v)

-- from a type to an interface by so many requirements
abbrev pub LeadsTo : List Decl → Term → Term → Type 0
LeadsTo ds u v = (n : ℕ) × Path ds n u v

-- a chain of classes from one that is there upward
pub record IsUpward (ds : List Decl) (chain : List ℕ) : Type 0 where
  pub from : ℕ
  pub within : from < length ds
  pub chained : IsChain ds from chain

-- A class of the chain names an interface that leads to this one, in the parameters of the lowest class.
pub record HasInterface (ds : List Decl) (chain : List ℕ) (owner : Term) : Type 0 where
  pub level : ℕ
  pub number : ℕ
  pub stands : slice_get chain level ≡ Some number
  pub class : Decl
  pub declared : slice_get ds number ≡ Some class
  pub named : SomeOf (λ (i : Located). LeadsTo ds (lift (envs_of ds chain) level i.term) owner) class.interfaces
