-- The generic interface that each type is of.
use Rattle.std.specs.Prelude.{◌≡◌, ℕ, Bool, true, false, List, map, Option, None}
use Rattle.std.specs.Option.{is_some}
use Rattle.vsd_terms.specs.declared.term.Term.{Term}
use Rattle.vsd_ast.specs.declared.declarations.Decl.{Decl}
use Rattle.vsd_ast.specs.Lookup.{head_of}
use Rattle.vsd_types.specs.TypeList.{TypeList}
use Rattle.vsd_types.specs.Types.{is_interface_type, place_of_head}

abbrev pub where_interface : Bool → Option ℕ → Option ℕ
where_interface true place = place
where_interface false place = None

-- the place of an interface's declaration, none for another type
abbrev pub generic_of : List Decl → Term → Option ℕ
generic_of ds t = where_interface (is_interface_type ds t) (place_of_head ds (head_of t))

-- the places of two types' interfaces are there, and are one place
pub record IsOneInterface (of_t of_u : Option ℕ) : Type 0 where
  pub some : is_some of_t ≡ true
  pub one : of_t ≡ of_u

-- the list that has it for each type
abbrev pub AreGenerics : TypeList → List (Option ℕ) → Type 0
AreGenerics c generics = generics ≡ map (generic_of c.decls.list) c.types
