-- The classes from one upward, by the names of their bases, and what each gives the next.
use Rattle.std.specs.Prelude.{◌≡◌, ℕ, ◌+◌, List, [], map, Option, Some, None, option_map, slice_get}
use Rattle.vsd_terms.specs.declared.term.Term.{Term}
use Rattle.vsd_terms.specs.declared.term.Term.TheOpen as layer
use Rattle.vsd_terms.specs.declared.term.Term.TheViews.{out-Term}
use Rattle.vsd_ast.specs.declared.declarations.Decl.{Decl}
use Rattle.vsd_ast.specs.declared.declarations.Located.{Located}
use Rattle.vsd_ast.specs.Lookup.{Head, named, parameter, built_in, head_of, place_of}

abbrev pub head_name : Head → Option ℕ
head_name (named name) = Some name
head_name (parameter place) = None
head_name (built_in b) = None

-- the name of a base that is no built-in
abbrev pub base_name : Option Located → Option ℕ
base_name None = None
base_name (Some base) = head_name (head_of base.term)

-- the number of the declaration that a declaration extends (ECMA-335, II.10.1.2)
abbrev pub place_above : List Decl → Option Decl → Option ℕ
place_above ds None = None
place_above ds (Some x) = option_map (place_of ds) (base_name x.base)

-- The declarations from one upward: each next one is what the one before extends, and the last extends none.
pub record IsChain (ds : List Decl) (from : ℕ) (chain : List ℕ) : Type 0 where
  pub first : slice_get chain 0 ≡ Some from
  pub next : (level n : ℕ) → slice_get chain level ≡ Some n → place_above ds (slice_get ds n) ≡ slice_get chain (level + 1)

abbrev pub arguments_in : layer.Term-F Term → List Term
arguments_in (layer.Named name args) = args
arguments_in (layer.Param place) = []
arguments_in (layer.Builtin b) = []

-- the arguments of a named type; none of another
abbrev pub arguments_of : Term → List Term
arguments_of t = arguments_in (out-Term t)

abbrev pub given_to : Option Located → List Term
given_to None = []
given_to (Some base) = arguments_of base.term

abbrev pub arguments_at : Option Decl → List Term
arguments_at None = []
arguments_at (Some x) = given_to x.base

-- what each declaration of a chain gives the next as arguments, the lowest first
abbrev pub envs_of : List Decl → List ℕ → List (List Term)
envs_of ds chain = map (λ n. arguments_at (slice_get ds n)) chain
