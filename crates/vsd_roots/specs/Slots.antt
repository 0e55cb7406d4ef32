-- Which method a virtual method overrides, and the root of its slot (ECMA-335, II.9.9, II.10.3.1).
use Rattle.std.specs.Prelude.{◌≡◌, ℕ, zero, suc, ◌<◌, ◌≤◌, ◌⊎◌, true, false, List, Option, Some, None, slice_get}
use Rattle.vsd_ast.specs.declared.declarations.Access.TheVariants.{Private}
use Rattle.vsd_ast.specs.declared.declarations.Decl.{Decl}
use Rattle.vsd_ast.specs.declared.declarations.Method.{Method}
use Rattle.vsd_lift.specs.Chain.{IsChain, envs_of}
use Rattle.vsd_lift.specs.Lift.{lift_signature}
use Rattle.vsd_roots.specs.Methods.{IsMethod}
use Rattle.vsd_roots.specs.declared.place.Place.{Place}

-- A method of the class at a level above that has the method's name and, as a term in the parameters of the lowest class,
-- its signature, and isn't private.
pub record Matches (ds : List Decl) (chain : List ℕ) (m : Method) (level : ℕ) (q : Place) : Type 0 where
  pub above : 0 < level
  pub stands : slice_get chain level ≡ Some q.decl
  pub other : Method
  pub is_other : IsMethod ds q other
  pub name : other.name ≡ m.name
  pub visible : other.access ≡ Private → ⊥
  pub signature : m.signature ≡ lift_signature (envs_of ds chain) level other.signature

-- it is the match of the nearest class that has one, and the first of that class
pub record IsNearest (ds : List Decl) (chain : List ℕ) (m : Method) (q : Place) : Type 0 where
  pub level : ℕ
  pub matches : Matches ds chain m level q
  pub nearest : (l : ℕ) (r : Place) → Matches ds chain m l r → (level < l) ⊎ ((level ≡ l) × (q.method ≤ r.method))

abbrev pub HasMatch : List Decl → List ℕ → Method → Type 0
HasMatch ds chain m = (level : ℕ) × ((q : Place) × Matches ds chain m level q)

-- a method without `newslot` overrides its nearest match above
pub record Overrides (ds : List Decl) (p q : Place) : Type 0 where
  pub method : Method
  pub is_method : IsMethod ds p method
  pub old : method.newslot ≡ false
  pub chain : List ℕ
  pub upward : IsChain ds p.decl chain
  pub nearest : IsNearest ds chain method q

-- a method with `newslot`, or without a match above, has a slot of its own
pub record StartsSlot (ds : List Decl) (p : Place) : Type 0 where
  pub method : Method
  pub is_method : IsMethod ds p method
  pub chain : List ℕ
  pub upward : IsChain ds p.decl chain
  pub new : (method.newslot ≡ true) ⊎ (HasMatch ds chain method → ⊥)

-- what a method overrides, if anything
abbrev pub IsOverridden : List Decl → Place → Option Place → Type 0
IsOverridden ds p None = StartsSlot ds p
IsOverridden ds p (Some q) = Overrides ds p q

-- from one method to another by so many overrides
abbrev pub Climbs : List Decl → ℕ → Place → Place → Type 0
Climbs ds zero p q = p ≡ q
Climbs ds (suc n) p q = (r : Place) × (Overrides ds p r × Climbs ds n r q)

-- overrides lead from one method to another
abbrev pub Reaches : List Decl → Place → Place → Type 0
Reaches ds p q = (n : ℕ) × Climbs ds n p q

-- the method that is reached by overrides and has a slot of its own
pub record IsRoot (ds : List Decl) (p root : Place) : Type 0 where
  pub steps : ℕ
  pub climbs : Climbs ds steps p root
  pub starts : StartsSlot ds root
