-- How deep and how large a term is. Each is a fold: what a node has, from what its arguments have.
use Rattle.std.specs.Prelude.{ℕ, ◌+◌, List, [], ◌∷◌, max, sum}
use Rattle.vsd_terms.specs.declared.term.Term.{Term}
use Rattle.vsd_terms.specs.declared.term.Term.TheOpen.{Term-F, Named, Param, Builtin}
use Rattle.vsd_terms.specs.declared.term.Term.TheFolds.{fold-Term}

-- the largest of a list of numbers, and 0 of none
abbrev pub greatest : List ℕ → ℕ
greatest [] = 0
greatest (n ∷ ns) = max n (greatest ns)

abbrev pub levels_step : Term-F ℕ → ℕ
levels_step (Named name args) = 1 + greatest args
levels_step (Param n) = 1
levels_step (Builtin b) = 1

-- 1 without arguments, else 1 plus the most levels of an argument
abbrev pub levels_of : Term → ℕ
levels_of = fold-Term ℕ levels_step

abbrev pub nodes_step : Term-F ℕ → ℕ
nodes_step (Named name args) = 1 + sum args
nodes_step (Param n) = 1
nodes_step (Builtin b) = 1

-- 1 plus the nodes of all arguments
abbrev pub nodes_of : Term → ℕ
nodes_of = fold-Term ℕ nodes_step
