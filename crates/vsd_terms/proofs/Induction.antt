-- Induction over terms: what holds of each form, where it holds of its arguments, holds of every term.
use Rattle.std.proofs.Common.{ℕ, List, map, subst, sym}
use Rattle.vsd_terms.specs.declared.term.Builtin.{Builtin as Kind}
use Rattle.vsd_terms.specs.declared.term.Term.{Term}
use Rattle.vsd_terms.specs.declared.term.Term.TheFolds.{ind-Term, map-Term}
use Rattle.vsd_terms.specs.declared.term.Term.TheOpen as layer
use Rattle.vsd_terms.specs.declared.term.Term.TheViews.{roll-Term}
use Rattle.vsd_terms.specs.declared.term.Term.TheVariants.{Named, Param, Builtin, rolls-Named, rolls-Param, rolls-Builtin}

module _ (P : Term → Type 0) (named : (name : ℕ) (args : List ((t : Term) × P t)) → P (Named name (map (λ e. e.0) args))) (param : (place : ℕ) → P (Param place)) (builtin : (b : Kind) → P (Builtin b)) where
  layered : (y : layer.Term-F ((t : Term) × P t)) → P (roll-Term (map-Term ((t : Term) × P t) Term (λ e. e.0) y))
  layered (layer.Named name args) = subst P (sym (rolls-Named name (map (λ e. e.0) args))) (named name args)
  layered (layer.Param place) = subst P (sym (rolls-Param place)) (param place)
  layered (layer.Builtin b) = subst P (sym (rolls-Builtin b)) (builtin b)

  pub term_induction : (t : Term) → P t
  term_induction = ind-Term P (λ x y is. subst (λ (z : layer.Term-F Term). P (roll-Term z)) is (layered y))
