-- What implements a method of an interface in a class (ECMA-335, II.12.2, in this project's profile).
use Rattle.std.specs.Prelude.{◌≡◌, ℕ, Bool, if◌then◌else◌, List, [], ◌∷◌, Option, Some, None}
use Rattle.std.specs.List.{list_any}
use Rattle.std.specs.Option.{option_map, option_or}
use Rattle.vsd_terms.specs.declared.term.Term.{Term}
use Rattle.vsd_terms.specs.Equality.{term_eq}
use Rattle.vsd_ast.specs.declared.declarations.Decl.{Decl}
use Rattle.vsd_interfaces.specs.Lineage.{IsLineage, Level}
use Rattle.vsd_methods.specs.Methods.{naming, overriding}

-- a closed class, and the place of one of the methods that it declares
pub record Found : Type 0 where
  pub class : Term
  pub method : ℕ

abbrev pub found_in : Term → Option ℕ → Option Found
found_in t place = option_map (λ (method : ℕ). record { class = t; method = method }) place

-- the interface is among those that the class has by what it names itself
abbrev pub has : Level → Term → Bool
has l i = list_any (term_eq i) l.interfaces

-- for the m-th method of the interface i
module _ (ds : List Decl) (i : Term) (m : ℕ) where
  -- the class's own override
  abbrev pub by_override : Level → Option Found
  by_override l = found_in l.type (overriding ds i m l.type)

  -- the class's own public virtual method of that name and signature
  abbrev pub by_name : Level → Option Found
  by_name l = found_in l.type (naming ds i m l.type)

  -- such a method of the nearest class that has one
  abbrev pub nearest : List Level → Option Found
  nearest [] = None
  nearest (l ∷ above) = option_or (by_name l) (nearest above)

  -- what counts only where the class has the interface
  abbrev pub where_has : Level → Option Found → Option Found
  where_has l found = if has l i then found else None

  -- The first that there is: the class's own override; where it has the interface, its own method by name; what its base
  -- has; where it has the interface, the method by name of the nearest class above.
  abbrev pub implementation : List Level → Option Found
  implementation [] = None
  implementation (l ∷ above) = option_or (by_override l) (option_or (where_has l (by_name l)) (option_or (implementation above) (where_has l (nearest above))))

-- what implements the m-th method of the interface i in the type t, if anything does
pub record IsImplementation (ds : List Decl) (t i : Term) (m : ℕ) (found : Option Found) : Type 0 where
  pub levels : List Level
  pub lineage : IsLineage ds (Some t) levels
  pub first : found ≡ implementation ds i m levels
