-- What substitution gives for each form of term.
use Rattle.std.proofs.Common.{◌≡◌, ℕ, ◌+◌, List, [], map, slice_index_or, sym, ap, ◌∙◌}
use Rattle.vsd_terms.specs.Size.{greatest}
use Rattle.vsd_terms.specs.Substitution.{parameters_of, parameters_step, subst_of, subst_step}
use Rattle.vsd_terms.specs.declared.term.Builtin.{Builtin as Kind}
use Rattle.vsd_terms.specs.declared.term.Term.{Term}
use Rattle.vsd_terms.specs.declared.term.Term.TheFolds.{fold-roll-Term}
use Rattle.vsd_terms.specs.declared.term.Term.TheOpen as layer
use Rattle.vsd_terms.specs.declared.term.Term.TheViews.{out-Term, out-roll-Term}
use Rattle.vsd_terms.specs.declared.term.Term.TheVariants.{Named, Param, Builtin, rolls-Named, rolls-Param, rolls-Builtin}

pub parameters_of-Named : (name : ℕ) (args : List Term) → parameters_of (Named name args) ≡ greatest (map parameters_of args)
parameters_of-Named name args = ap parameters_of (sym (rolls-Named name args)) ∙ fold-roll-Term ℕ parameters_step (layer.Named name args)

pub parameters_of-Param : (place : ℕ) → parameters_of (Param place) ≡ place + 1
parameters_of-Param place = ap parameters_of (sym (rolls-Param place)) ∙ fold-roll-Term ℕ parameters_step (layer.Param place)

pub parameters_of-Builtin : (b : Kind) → parameters_of (Builtin b) ≡ 0
parameters_of-Builtin b = ap parameters_of (sym (rolls-Builtin b)) ∙ fold-roll-Term ℕ parameters_step (layer.Builtin b)

pub subst_of-Named : (args : List Term) (name : ℕ) (inner : List Term) → subst_of args (Named name inner) ≡ Named name (map (subst_of args) inner)
subst_of-Named args name inner = ap (subst_of args) (sym (rolls-Named name inner)) ∙ fold-roll-Term Term (subst_step args) (layer.Named name inner)

pub subst_of-Param : (args : List Term) (place : ℕ) → subst_of args (Param place) ≡ slice_index_or args place (Param place)
subst_of-Param args place = ap (subst_of args) (sym (rolls-Param place)) ∙ fold-roll-Term Term (subst_step args) (layer.Param place)

pub subst_of-Builtin : (args : List Term) (b : Kind) → subst_of args (Builtin b) ≡ Builtin b
subst_of-Builtin args b = ap (subst_of args) (sym (rolls-Builtin b)) ∙ fold-roll-Term Term (subst_step args) (layer.Builtin b)

pub same_named : (x y : ℕ) (xs ys : List Term) → x ≡ y → xs ≡ ys → Named x xs ≡ Named y ys
same_named x y xs ys names args = cc

-- the arguments of a named term, as its outermost layer has them
abbrev arguments_in : layer.Term-F Term → List Term
arguments_in (layer.Named name args) = args
arguments_in (layer.Param place) = []
arguments_in (layer.Builtin b) = []

arguments-Named : (name : ℕ) (args : List Term) → arguments_in (out-Term (Named name args)) ≡ args
arguments-Named name args = ap (λ t. arguments_in (out-Term t)) (sym (rolls-Named name args)) ∙ ap arguments_in (out-roll-Term (layer.Named name args))

pub same_arguments : (x y : ℕ) (xs ys : List Term) → Named x xs ≡ Named y ys → xs ≡ ys
same_arguments x y xs ys named = sym (arguments-Named x xs) ∙ ap (λ t. arguments_in (out-Term t)) named ∙ arguments-Named y ys
