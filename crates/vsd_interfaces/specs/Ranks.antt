-- A rank for each type, greater than those of its base and of what it names.
use Rattle.std.specs.Prelude.{◌≡◌, ℕ, ◌+◌, ◌<◌, List, length, slice_index, slice_index_or}
use Rattle.vsd_terms.specs.declared.term.Builtin.{Builtin}
use Rattle.vsd_terms.specs.declared.term.Builtin.TheVariants.{Object, String, ValueType}
use Rattle.vsd_terms.specs.declared.term.Term.{Term}
use Rattle.vsd_ast.specs.declared.declarations.Decl.{Decl}
use Rattle.vsd_ast.specs.Lookup.{Head, named, parameter, built_in, head_of, place_of}
use Rattle.vsd_types.specs.Types.{type_at}

abbrev pub builtin_rank : Builtin → ℕ
builtin_rank Object = 0
builtin_rank String = 1
builtin_rank ValueType = 1
builtin_rank b = 2

module _ (ds : List Decl) (depths : List ℕ) where
  abbrev pub head_rank : Head → ℕ
  head_rank (named name) = slice_index_or depths (place_of ds name) 0 + 2
  head_rank (parameter place) = 0
  head_rank (built_in b) = builtin_rank b

  -- the depth of a type's declaration, above the ranks of the built-in types
  abbrev pub rank_of : Term → ℕ
  rank_of t = head_rank (head_of t)

  -- the rank of each type of a list
  pub record AreRanks (types : List Term) (ranks : List ℕ) : Type 0 where
    pub count : length ranks ≡ length types
    pub each : (t : ℕ) → t < length types → slice_index ranks t ≡ rank_of (type_at types t)
