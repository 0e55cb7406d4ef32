-- The body of a slot in a class, and classes whose slots have abstract bodies (ECMA-335, II.10.1.4, II.15.4.2.4).
use Rattle.std.specs.Prelude.{◌≡◌, ℕ, ◌+◌, ◌-◌, ◌*◌, ◌<◌, ◌≤◌, ◌⊎◌, ◌↔◌, Bool, true, false, ◌&&◌, nat_eq, IsTrue, List, length, Some, slice_get, slice_index_or}
use Rattle.vsd_ast.specs.declared.declarations.Decl.{Decl}
use Rattle.vsd_ast.specs.declared.declarations.Method.{Method}
use Rattle.vsd_lift.specs.Chain.{IsChain, place_above}
use Rattle.vsd_roots.specs.Methods.{IsMethod}
use Rattle.vsd_roots.specs.Order.{rank}
use Rattle.vsd_roots.specs.Slots.{IsRoot}
use Rattle.vsd_roots.specs.declared.place.Place.{Place}

-- The method with this root in the nearest class of the chain, the later one of two in one class: what the slot holds in
-- the lowest class.
pub record IsBody (ds : List Decl) (chain : List ℕ) (root : Place) (level : ℕ) (body : Place) : Type 0 where
  pub stands : slice_get chain level ≡ Some body.decl
  pub rooted : IsRoot ds body root
  pub nearest : (l : ℕ) (r : Place) → slice_get chain l ≡ Some r.decl → IsRoot ds r root → (level < l) ⊎ ((level ≡ l) × (r.method ≤ body.method))

-- a body of the chain that is abstract
pub record AbstractBody (ds : List Decl) (chain : List ℕ) (level : ℕ) (body : Place) : Type 0 where
  pub root : Place
  pub is_body : IsBody ds chain root level body
  pub method : Method
  pub is_method : IsMethod ds body method
  pub abstract : method.is_abstract ≡ true

-- a slot of the declaration, its own or an inherited one, has an abstract body
pub record HasAbstract (ds : List Decl) (decl : ℕ) : Type 0 where
  pub chain : List ℕ
  pub upward : IsChain ds decl chain
  pub level : ℕ
  pub body : Place
  pub leaves : AbstractBody ds chain level body

-- the same of the declaration that this one extends
pub record BaseHasAbstract (ds : List Decl) (decl : ℕ) : Type 0 where
  pub base : ℕ
  pub extended : place_above ds (slice_get ds decl) ≡ Some base
  pub has : HasAbstract ds base

-- the line of a class that isn't abstract and has such a slot
abbrev pub ShowsAbstract : List Decl → ℕ → Decl → ℕ → Type 0
ShowsAbstract ds decl x line = ((x.is_interface ≡ false) × (x.is_abstract ≡ false) × HasAbstract ds decl) × (line ≡ x.line)

-- ---- the search for them, from the lowest class upward and from the last method of a class to the first

abbrev pub distance : ℕ → Place → ℕ
distance level p = level * 256 + (255 - p.method)

-- what `==` of places computes
abbrev pub place_eq : Place → Place → Bool
place_eq a b = nat_eq a.decl b.decl && nat_eq a.method b.method

-- a method nearer than the bound has this root
pub record SeenBelow (ds : List Decl) (chain : List ℕ) (bound : ℕ) (root : Place) : Type 0 where
  pub level : ℕ
  pub place : Place
  pub method : Method
  pub is_method : IsMethod ds place method
  pub stands : slice_get chain level ≡ Some place.decl
  pub below : distance level place < bound
  pub rooted : IsRoot ds place root

pub record AbstractBelow (ds : List Decl) (chain : List ℕ) (bound : ℕ) : Type 0 where
  pub level : ℕ
  pub body : Place
  pub leaves : AbstractBody ds chain level body
  pub below : distance level body < bound

-- the roots that were seen are those of the methods nearer than the bound, and an abstract body was found if one is nearer
pub record ScansTo (ds : List Decl) (chain : List ℕ) (bound : ℕ) (seen : Place → Bool) (found : Bool) : Type 0 where
  pub roots : (root : Place) → IsTrue (seen root) ↔ SeenBelow ds chain bound root
  pub bodies : IsTrue found ↔ AbstractBelow ds chain bound

-- the declarations below a rank are marked where they have a slot with an abstract body
pub record MarksBelow (ds : List Decl) (depths : List ℕ) (bound : ℕ) (marks : List Bool) : Type 0 where
  pub long : length marks ≡ length ds
  pub each : (i : ℕ) → i < length ds → rank depths i < bound → IsTrue (slice_index_or marks i false) ↔ HasAbstract ds i

pub record Marks (ds : List Decl) (marks : List Bool) : Type 0 where
  pub long : length marks ≡ length ds
  pub each : (i : ℕ) → i < length ds → IsTrue (slice_index_or marks i false) ↔ HasAbstract ds i
