-- The text of a term.
use Rattle.std.specs.Prelude.{ℕ, ◌+◌, max, List, [], ◌∷◌, ◌++◌, codes, slice_index_or}
use Rattle.std.specs.List.{join_with_byte}
use Rattle.vsd_terms.specs.declared.term.Builtin.{Builtin}
use Rattle.vsd_terms.specs.declared.term.Builtin.TheVariants.{Object, String, ValueType, Bool, Char, Int8, Int16, Int32, Int64, Uint8, Uint16, Uint32, Uint64, Float32, Float64}
use Rattle.vsd_terms.specs.declared.term.Term.{Term}
use Rattle.vsd_terms.specs.declared.term.Term.TheOpen as layer
use Rattle.vsd_terms.specs.declared.term.Term.TheFolds.{fold-Term}
use Rattle.vsd_terms.specs.Size.{greatest}

unfoldable pub builtin_text : Builtin → List ℕ
builtin_text Object = codes "object"
builtin_text String = codes "string"
builtin_text ValueType = codes "System.ValueType"
builtin_text Bool = codes "bool"
builtin_text Char = codes "char"
builtin_text Int8 = codes "int8"
builtin_text Int16 = codes "int16"
builtin_text Int32 = codes "int32"
builtin_text Int64 = codes "int64"
builtin_text Uint8 = codes "uint8"
builtin_text Uint16 = codes "uint16"
builtin_text Uint32 = codes "uint32"
builtin_text Uint64 = codes "uint64"
builtin_text Float32 = codes "float32"
builtin_text Float64 = codes "float64"

-- `<`, the texts with commas between, and `>`; nothing where there are none
abbrev pub bracketed : List (List ℕ) → List ℕ
bracketed [] = []
bracketed (text ∷ texts) = codes "<" ++ join_with_byte 44 (text ∷ texts) ++ codes ">"

abbrev pub text_step : List (List ℕ) → layer.Term-F (List ℕ) → List ℕ
text_step names (layer.Named name args) = slice_index_or names name [] ++ bracketed args
text_step names (layer.Param place) = []
text_step names (layer.Builtin b) = builtin_text b

-- the text of a closed term whose names are there
abbrev pub text_of : List (List ℕ) → Term → List ℕ
text_of names = fold-Term (List ℕ) (text_step names)

abbrev pub names_step : layer.Term-F ℕ → ℕ
names_step (layer.Named name args) = max (name + 1) (greatest args)
names_step (layer.Param place) = 0
names_step (layer.Builtin b) = 0

-- one more than the last number of a name in the term, and 0 where it names none
abbrev pub names_of : Term → ℕ
names_of = fold-Term ℕ names_step
