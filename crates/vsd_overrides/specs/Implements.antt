-- Which method of which interface an override implements, and by which method of its class (ECMA-335, II.10.3.2, II.12.2).
use Rattle.std.specs.Prelude.{◌≡◌, ℕ, true, false, List, Some, slice_get}
use Rattle.vsd_terms.specs.declared.term.Term.{Term}
use Rattle.vsd_terms.specs.declared.term.Term.TheVariants as term
use Rattle.vsd_ast.specs.declared.declarations.Decl.{Decl}
use Rattle.vsd_ast.specs.declared.declarations.Implementer.{Implementer}
use Rattle.vsd_ast.specs.declared.declarations.Implementer.TheVariants.{Own, Named}
use Rattle.vsd_ast.specs.declared.declarations.Method.{Method}
use Rattle.vsd_ast.specs.declared.declarations.Override.{Override}
use Rattle.vsd_ast.specs.Lookup.{head_of, named, place_of}
use Rattle.vsd_lift.specs.Chain.{IsChain}
use Rattle.vsd_ways.specs.Leads.{HasInterface}
use Rattle.vsd_overrides.specs.Matched.{IsFirstWith, IsMeant, IsNamed, subst_signature}
use Rattle.vsd_overrides.specs.declared.target.Target.{Target}

-- The virtual method at this place of the declaration is the one that implements: the one in whose body the override
-- stands, or the first of the declaration that has the name and the signature after `with`, where the class before that
-- name is this one, whatever its arguments.
abbrev pub IsBody : Decl → Implementer → ℕ → Method → Type 0
IsBody x (Own own) place m = (place ≡ own) × (slice_get x.methods place ≡ Some m)
IsBody x (Named owner name signature) place m = (head_of owner ≡ named x.name) × IsFirstWith (IsNamed name signature) x.methods place m

-- The implementing method and the owner's method, where the owner is this interface at these arguments.
pub record Agrees (x : Decl) (o : Override) (args : List Term) (interface : Decl) (t : Target) : Type 0 where
  -- the declaration has the implementing method
  pub implementing : Method
  pub body : IsBody x o.body t.body implementing
  -- the interface has the method that the override gives; of several the first is meant
  pub implemented : Method
  pub slot : IsFirstWith (IsMeant o args implementing.signature) interface.methods t.slot implemented
  -- the signature of the implementing method is that of the interface's method, at the owner's arguments
  pub agrees : implementing.signature ≡ subst_signature args implemented.signature

-- What an override of a declaration says, whether or not the declaration has the interface.
pub record Means (ds : List Decl) (x : Decl) (o : Override) (t : Target) : Type 0 where
  -- an override in an interface implements nothing
  pub class : x.is_interface ≡ false
  -- the owner is an interface
  pub name : ℕ
  pub args : List Term
  pub owner : o.owner ≡ term.Named name args
  pub place : t.interface ≡ place_of ds name
  pub interface : Decl
  pub declared : slice_get ds (place_of ds name) ≡ Some interface
  pub kind : interface.is_interface ≡ true
  pub methods : Agrees x o args interface t

-- the declaration, or a class above it, names an interface that leads to the owner
pub record HasOwner (ds : List Decl) (decl : ℕ) (owner : Term) : Type 0 where
  pub chain : List ℕ
  pub upward : IsChain ds decl chain
  pub has : HasInterface ds chain owner

pub record Implements (ds : List Decl) (decl : ℕ) (x : Decl) (o : Override) (t : Target) : Type 0 where
  pub means : Means ds x o t
  pub has : HasOwner ds decl o.owner
