-- The levels and the nodes of each form of term.
use Rattle.std.proofs.Common.{◌≡◌, ℕ, ◌+◌, List, map, sum, sym, ap, ◌∙◌}
use Rattle.vsd_terms.specs.Size.{greatest, levels_of, levels_step, nodes_of, nodes_step}
use Rattle.vsd_terms.specs.declared.term.Term.{Term}
use Rattle.vsd_terms.specs.declared.term.Term.TheFolds.{fold-roll-Term}
use Rattle.vsd_terms.specs.declared.term.Term.TheOpen as layer
use Rattle.vsd_terms.specs.declared.term.Term.TheVariants.{Named, Param, rolls-Named, rolls-Param}

pub levels_of-Named : (name : ℕ) (args : List Term) → levels_of (Named name args) ≡ 1 + greatest (map levels_of args)
levels_of-Named name args = ap levels_of (sym (rolls-Named name args)) ∙ fold-roll-Term ℕ levels_step (layer.Named name args)

pub levels_of-Param : (place : ℕ) → levels_of (Param place) ≡ 1
levels_of-Param place = ap levels_of (sym (rolls-Param place)) ∙ fold-roll-Term ℕ levels_step (layer.Param place)

pub nodes_of-Named : (name : ℕ) (args : List Term) → nodes_of (Named name args) ≡ 1 + sum (map nodes_of args)
nodes_of-Named name args = ap nodes_of (sym (rolls-Named name args)) ∙ fold-roll-Term ℕ nodes_step (layer.Named name args)
