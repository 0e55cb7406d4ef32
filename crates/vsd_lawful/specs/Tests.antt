-- The tests that look at the types of terms.
use Rattle.std.specs.Prelude.{ℕ, Bool, false, not, nat_eq, ◌||◌, List, [], ◌∷◌, length, map, Option, Some, None, is_none}
use Rattle.vsd_terms.specs.declared.term.Term.{Term}
use Rattle.vsd_terms.specs.declared.term.Term.TheOpen as layer
use Rattle.vsd_terms.specs.declared.term.Term.TheFolds.{fold-Term}
use Rattle.vsd_ast.specs.Lookup.{declared}
use Rattle.vsd_ast.specs.declared.declarations.Decl.{Decl}

abbrev pub any_true : List Bool → Bool
any_true [] = false
any_true (b ∷ bs) = b || any_true bs

abbrev pub any_step : (ℕ × ℕ → Bool) → layer.Term-F Bool → Bool
any_step test (layer.Named name args) = test (name, length args) || any_true args
any_step test (layer.Param place) = false
any_step test (layer.Builtin b) = false

-- whether a named type of the term, with the number of its arguments, passes the test
abbrev pub any_named : (ℕ × ℕ → Bool) → Term → Bool
any_named test = fold-Term Bool (any_step test)

-- the same of several terms
abbrev pub any_among : (ℕ × ℕ → Bool) → List Term → Bool
any_among test ts = any_true (map (any_named test) ts)

abbrev pub is_unknown : List Decl → ℕ × ℕ → Bool
is_unknown ds type = is_none (declared ds type.0)

abbrev pub miscounts : Option Decl → ℕ → Bool
miscounts None count = false
miscounts (Some x) count = not (nat_eq (length x.params) count)

abbrev pub is_miscounted : List Decl → ℕ × ℕ → Bool
is_miscounted ds type = miscounts (declared ds type.0) type.1
