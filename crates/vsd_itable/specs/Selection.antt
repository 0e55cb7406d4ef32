-- Which method a call on an object selects (ECMA-335, II.12.2, in this project's profile).
use Rattle.std.specs.Prelude.{◌≡◌, ℕ, List, Option, Some, None}
use Rattle.vsd_terms.specs.declared.term.Term.{Term}
use Rattle.vsd_ast.specs.declared.declarations.Decl.{Decl}
use Rattle.vsd_roots.specs.declared.place.Place.{Place}
use Rattle.vsd_slots.specs.Implementation.{Found, IsImplementation}
use Rattle.vsd_itable.specs.Bodies.{HasRoot, IsBody}
use Rattle.vsd_itable.specs.Matching.{IsMatch}

module _ (ds : List Decl) (t : Term) where
  -- what implements the m-th method of the interface that answers in the type t, if one answers and anything does
  abbrev pub IsImplementedBy : ℕ → Option Term → Option Found → Type 0
  IsImplementedBy m None method = method ≡ None
  IsImplementedBy m (Some i) method = IsImplementation ds t i m method

  -- what the slot of a method holds in the type t
  pub record IsBodyOf (method body : Found) : Type 0 where
    pub root : Place
    pub rooted : HasRoot ds root method.class method.method
    pub holds : IsBody ds root t body

  -- the same of what implements, where anything does
  abbrev pub IsBodyFor : Option Found → Option Found → Type 0
  IsBodyFor None body = body ≡ None
  IsBodyFor (Some method) None = ⊥
  IsBodyFor (Some method) (Some body) = IsBodyOf method body

-- The method that a call of the m-th method of the interface j selects on an object of the type t: the body, in t, of what
-- implements that method of the interface that answers for j. None where the slot is missing.
pub record IsSelection (ds : List Decl) (t j : Term) (m : ℕ) (found : Option Found) : Type 0 where
  pub answering : Option Term
  pub matches : IsMatch ds t j answering
  pub method : Option Found
  pub implements : IsImplementedBy ds t m answering method
  pub body : IsBodyFor ds t method found
