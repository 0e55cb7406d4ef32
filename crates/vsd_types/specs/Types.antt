-- What declarations say of a closed type: its base, the interfaces that it names, its arguments, the signs of its
-- declaration's parameters, and whether it is an interface and a reference type (ECMA-335, I.8.2, I.8.7, II.9, II.10).
use Rattle.std.specs.Prelude.{◌≡◌, ℕ, IsTrue, Bool, true, false, not, if◌then◌else◌, List, [], ◌++◌, map, Option, Some, None, slice_index_or}
use Rattle.std.specs.Option.{option_to_list, option_and_then}
use Rattle.vsd_terms.specs.declared.term.Builtin.{Builtin}
use Rattle.vsd_terms.specs.declared.term.Builtin.TheVariants.{Object, String, ValueType}
use Rattle.vsd_terms.specs.declared.term.Term.{Term}
use Rattle.vsd_terms.specs.declared.term.Term.TheVariants as term
use Rattle.vsd_terms.specs.declared.term.Term.TheOpen as layer
use Rattle.vsd_terms.specs.declared.term.Term.TheViews.{out-Term}
use Rattle.vsd_terms.specs.Substitution.{parameters_of, subst_of}
use Rattle.vsd_ast.specs.declared.declarations.Decl.{Decl}
use Rattle.vsd_ast.specs.declared.declarations.Located.{Located}
use Rattle.vsd_ast.specs.declared.declarations.Sign.{Sign}
use Rattle.vsd_ast.specs.Lookup.{Head, named, parameter, built_in, head_of, declared, place_of, is_lawful, is_value_type}

abbrev pub arguments_in : layer.Term-F Term → List Term
arguments_in (layer.Named name args) = args
arguments_in (layer.Param place) = []
arguments_in (layer.Builtin b) = []

-- the arguments of a type, in order
abbrev pub args_of : Term → List Term
args_of t = arguments_in (out-Term t)

abbrev pub object : Term
object = term.Builtin Object

-- the base of a built-in type
abbrev pub builtin_base : Builtin → Option Term
builtin_base Object = None
builtin_base String = Some object
builtin_base ValueType = Some object
builtin_base b = Some (term.Builtin ValueType)

abbrev pub is_reference_builtin : Builtin → Bool
is_reference_builtin Object = true
is_reference_builtin String = true
is_reference_builtin ValueType = true
is_reference_builtin b = false

abbrev pub written_base : List Term → Option Located → Term
written_base args None = object
written_base args (Some b) = subst_of args b.term

-- the base of a declared type at its arguments: an interface has none, and a class without `extends` has `object`
abbrev pub declared_base : List Term → Decl → Option Term
declared_base args x = if x.is_interface then None else Some (written_base args x.base)

abbrev pub declared_interfaces : List Term → Option Decl → List Term
declared_interfaces args None = []
declared_interfaces args (Some x) = map (λ (i : Located). subst_of args i.term) x.interfaces

abbrev pub declared_signs : Option Decl → List Sign
declared_signs None = []
declared_signs (Some x) = map (λ p. p.sign) x.params

abbrev pub is_declared_interface : Option Decl → Bool
is_declared_interface None = false
is_declared_interface (Some x) = x.is_interface

abbrev pub is_declared_reference : Option Decl → Bool
is_declared_reference None = false
is_declared_reference (Some x) = not (is_value_type x)

-- the type at a number, `object` past the list's end
abbrev pub type_at : List Term → ℕ → Term
type_at types t = slice_index_or types t object

module _ (ds : List Decl) where
  abbrev pub declaration_of_head : Head → Option Decl
  declaration_of_head (named name) = declared ds name
  declaration_of_head (parameter place) = None
  declaration_of_head (built_in b) = None

  -- the declaration that a type is of: none for a built-in
  abbrev pub declaration_of : Term → Option Decl
  declaration_of t = declaration_of_head (head_of t)

  abbrev pub place_of_head : Head → Option ℕ
  place_of_head (named name) = Some (place_of ds name)
  place_of_head (parameter place) = None
  place_of_head (built_in b) = None

  abbrev pub base_of_head : List Term → Head → Option Term
  base_of_head args (named name) = option_and_then (declared_base args) (declared ds name)
  base_of_head args (parameter place) = None
  base_of_head args (built_in b) = builtin_base b

  -- the base of a type, where it has one: neither `object` nor an interface has
  abbrev pub base_of : Term → Option Term
  base_of t = base_of_head (args_of t) (head_of t)

  -- the interfaces that a type names, in order
  abbrev pub named_of : Term → List Term
  named_of t = declared_interfaces (args_of t) (declaration_of t)

  -- the signs of the parameters of its declaration, in order
  abbrev pub signs_of : Term → List Sign
  signs_of t = declared_signs (declaration_of t)

  abbrev pub is_interface_type : Term → Bool
  is_interface_type t = is_declared_interface (declaration_of t)

  abbrev pub is_reference_head : Head → Bool
  is_reference_head (named name) = is_declared_reference (declared ds name)
  is_reference_head (parameter place) = false
  is_reference_head (built_in b) = is_reference_builtin b

  -- interfaces, classes whose base is not `System.ValueType`, `object`, `string` and `System.ValueType` (I.8.7)
  abbrev pub is_reference_type : Term → Bool
  is_reference_type t = is_reference_head (head_of t)

  -- what a type leads to: its base, then the interfaces that it names, then its arguments
  abbrev pub children : Term → List Term
  children t = option_to_list (base_of t) ++ named_of t ++ args_of t

  -- a term without parameters whose names are declared, each with as many arguments as its declaration takes
  pub record IsClosedType (t : Term) : Type 0 where
    pub closed : parameters_of t ≡ 0
    pub lawful : IsTrue (is_lawful ds t)
