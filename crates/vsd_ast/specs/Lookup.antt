-- Which declaration a name means, and which types a term may name.
use Rattle.std.specs.Prelude.{ℕ, ◌+◌, Bool, true, false, ◌&&◌, cond, nat_eq, List, [], ◌∷◌, length, Option, Some, None}
use Rattle.vsd_terms.specs.declared.term.Builtin.{Builtin}
use Rattle.vsd_terms.specs.declared.term.Builtin.TheVariants.{ValueType}
use Rattle.vsd_terms.specs.declared.term.Term.{Term}
use Rattle.vsd_terms.specs.declared.term.Term.TheOpen as layer
use Rattle.vsd_terms.specs.declared.term.Term.TheFolds.{fold-Term}
use Rattle.vsd_ast.specs.declared.declarations.Decl.{Decl}
use Rattle.vsd_ast.specs.declared.declarations.Located.{Located}

-- the first declaration with this name
unfoldable pub declared : List Decl → ℕ → Option Decl
declared [] name = None
declared (x ∷ xs) name = cond (nat_eq x.name name) (Some x) (declared xs name)

-- the place of the first declaration with this name; the number of declarations where there is none
unfoldable pub place_of : List Decl → ℕ → ℕ
place_of [] name = 0
place_of (x ∷ xs) name = cond (nat_eq x.name name) 0 (place_of xs name + 1)

-- the declaration is there, with so many parameters
abbrev pub takes : Option Decl → ℕ → Bool
takes None count = false
takes (Some x) count = nat_eq (length x.params) count

abbrev pub all_true : List Bool → Bool
all_true [] = true
all_true (b ∷ bs) = b && all_true bs

abbrev pub lawful_step : List Decl → layer.Term-F Bool → Bool
lawful_step ds (layer.Named name args) = takes (declared ds name) (length args) && all_true args
lawful_step ds (layer.Param place) = true
lawful_step ds (layer.Builtin b) = true

-- each type that the term names is declared, and has as many arguments as its declaration has parameters
abbrev pub is_lawful : List Decl → Term → Bool
is_lawful ds = fold-Term Bool (lawful_step ds)

-- what a term is of, without its arguments
pub data Head : Type 0 where
  named : ℕ → Head
  parameter : ℕ → Head
  built_in : Builtin → Head

abbrev pub head_step : layer.Term-F Head → Head
head_step (layer.Named name args) = named name
head_step (layer.Param place) = parameter place
head_step (layer.Builtin b) = built_in b

abbrev pub head_of : Term → Head
head_of = fold-Term Head head_step

abbrev pub is_value_head : Head → Bool
is_value_head (named name) = false
is_value_head (parameter place) = false
is_value_head (built_in ValueType) = true
is_value_head (built_in b) = false

abbrev pub value_base : Option Located → Bool
value_base None = false
value_base (Some x) = is_value_head (head_of x.term)

-- a class whose base is `System.ValueType` (I.8.2.4)
abbrev pub is_value_type : Decl → Bool
is_value_type x = value_base x.base
