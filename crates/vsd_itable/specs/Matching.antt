-- Which interface of a class answers for an interface (ECMA-335, I.8.7, II.12.2, in this project's profile).
use Rattle.std.specs.Prelude.{◌≡◌, ℕ, ◌≤◌, ◌⊎◌, List, Contains, Option, Some, None, slice_get}
use Rattle.vsd_terms.specs.declared.term.Term.{Term}
use Rattle.vsd_ast.specs.declared.declarations.Decl.{Decl}
use Rattle.vsd_compat.specs.Compatibility.{AreSameInterface, IsCompatible}
use Rattle.vsd_slots.specs.Refusals.{AreAll}

module _ (ds : List Decl) (j : Term) where
  -- an interface that may answer for j: of the same generic interface, and compatible with j
  pub record Suits (i : Term) : Type 0 where
    pub generic : AreSameInterface ds i j
    pub compatible : IsCompatible ds i j

  -- the first of a list that suits
  pub record IsFirstThatSuits (interfaces : List Term) (i : Term) : Type 0 where
    pub place : ℕ
    pub stands : slice_get interfaces place ≡ Some i
    pub suits : Suits i
    pub first : (p : ℕ) (other : Term) → slice_get interfaces p ≡ Some other → Suits other → place ≤ p

  -- j itself where it is among the interfaces; else the first of them that suits; else none
  abbrev pub IsMatchAmong : List Term → Option Term → Type 0
  IsMatchAmong interfaces None = (Contains interfaces j → ⊥) × ((i : Term) → Contains interfaces i → Suits i → ⊥)
  IsMatchAmong interfaces (Some i) = (Contains interfaces j × (i ≡ j)) ⊎ ((Contains interfaces j → ⊥) × IsFirstThatSuits interfaces i)

-- the interface that answers for j in the type t: of the interfaces of t and of the classes above it, nearest class first
pub record IsMatch (ds : List Decl) (t j : Term) (found : Option Term) : Type 0 where
  pub interfaces : List Term
  pub all : AreAll ds t interfaces
  pub among : IsMatchAmong ds j interfaces found
