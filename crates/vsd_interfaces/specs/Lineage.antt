-- A class with those above it.
use Rattle.std.specs.Prelude.{◌≡◌, List, [], ◌∷◌, Option, Some, None}
use Rattle.std.specs.List.{flat_map}
use Rattle.vsd_terms.specs.declared.term.Term.{Term}
use Rattle.vsd_ast.specs.declared.declarations.Decl.{Decl}
use Rattle.vsd_types.specs.Types.{base_of}
use Rattle.vsd_interfaces.specs.Interfaces.{AreInterfaces, firsts}

-- a class, and the interfaces that it has by what it names itself
pub record Level : Type 0 where
  pub type : Term
  pub interfaces : List Term

-- the type and those above it, each next one the base of the one before; none from no type
abbrev pub IsLineage : List Decl → Option Term → List Level → Type 0
IsLineage ds None [] = Unit {0}
IsLineage ds None (l ∷ above) = ⊥
IsLineage ds (Some t) [] = ⊥
IsLineage ds (Some t) (l ∷ above) = (l.type ≡ t) × AreInterfaces ds t l.interfaces × IsLineage ds (base_of ds t) above

-- the interfaces of a class and of those above it, nearest class first, each where it first stands
abbrev pub all_interfaces : List Level → List Term
all_interfaces levels = firsts (flat_map (λ (l : Level). l.interfaces) levels)
