-- How large a written type is at most.
use Rattle.std.specs.Prelude.{◌≡◌, ℕ, ◌≤◌, List, Ok}
use Rattle.vsd_terms.specs.declared.term.Term.{Term}
use Rattle.vsd_terms.specs.Size.{levels_of, nodes_of}
use Rattle.vsd_grammar.specs.Input.{Input, State}
use Rattle.vsd_grammar.specs.Grammar.{G, Derives}
use Rattle.vsd_type_syntax.specs.Types.{Rules}

-- the rules count no nodes where they number a name
abbrev pub CountsNoNodes : Rules → Type 0
CountsNoNodes rules = (bytes : List ℕ) (s u : State) (n : ℕ) → rules.resolve bytes s ≡ Ok (n, u) → u.nodes ≡ s.nodes

-- at most 16 levels and 64 nodes
pub record IsSmall (t : Term) : Type 0 where
  pub levels : levels_of t ≤ 16
  pub nodes : nodes_of t ≤ 64

-- whatever the production derives is that small
abbrev pub KeepsLimits : G Term → Type 0
KeepsLimits g = (i : Input) (x : Term) (j : Input) → Derives Term g i x j → IsSmall x
