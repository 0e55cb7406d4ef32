-- The body of a slot in a closed class (ECMA-335, II.10.3.1, II.15.4.2.3).
use Rattle.std.specs.Prelude.{◌≡◌, ℕ, ◌≤◌, List, Option, Some, None}
use Rattle.vsd_terms.specs.declared.term.Term.{Term}
use Rattle.vsd_ast.specs.declared.declarations.Decl.{Decl}
use Rattle.vsd_ast.specs.Lookup.{head_of}
use Rattle.vsd_roots.specs.Slots.{IsRoot}
use Rattle.vsd_roots.specs.declared.place.Place.{Place}
use Rattle.vsd_types.specs.Types.{base_of, place_of_head}
use Rattle.vsd_slots.specs.Implementation.{Found}

-- the m-th method that the type declares has this root
pub record HasRoot (ds : List Decl) (root : Place) (t : Term) (m : ℕ) : Type 0 where
  pub decl : ℕ
  pub declared : place_of_head ds (head_of t) ≡ Some decl
  pub rooted : IsRoot ds (record { decl = decl; method = m }) root

module _ (ds : List Decl) (root : Place) where
  -- no method that the type declares has this root
  abbrev pub DeclaresNone : Term → Type 0
  DeclaresNone t = (m : ℕ) → HasRoot ds root t m → ⊥

  -- the m-th method that the type declares is the last one with this root
  pub record IsLast (t : Term) (m : ℕ) : Type 0 where
    pub rooted : HasRoot ds root t m
    pub last : (n : ℕ) → HasRoot ds root t n → n ≤ m

  -- What the slot with this root holds in a type: the last method with this root that the type declares, or what the slot holds
  -- in its base where the type declares none.
  pub data IsBody : Term → Found → Type 0 where
    declared : {t : Term} {body : Found} → body.class ≡ t → IsLast t body.method → IsBody t body
    inherited : {t : Term} {body : Found} (b : Term) → DeclaresNone t → base_of ds t ≡ Some b → IsBody b body → IsBody t body

  -- neither the type nor one above it declares a method with this root
  pub data HasNoBody : Term → Type 0 where
    top : {t : Term} → DeclaresNone t → base_of ds t ≡ None → HasNoBody t
    further : {t : Term} (b : Term) → DeclaresNone t → base_of ds t ≡ Some b → HasNoBody b → HasNoBody t

-- a type, or one above it
pub data IsUpward (ds : List Decl) : Term → Term → Type 0 where
  itself : {t u : Term} → u ≡ t → IsUpward ds t u
  above : {t u : Term} (b : Term) → base_of ds t ≡ Some b → IsUpward ds b u → IsUpward ds t u
