-- The three forms of a term, and that no two of them are one.
use Rattle.std.proofs.Common.{◌≡◌, ℕ, List, [], map, refl, sym, ap, ◌∙◌}
use Rattle.vsd_terms.specs.declared.term.Builtin.{Builtin as Kind}
use Rattle.vsd_terms.specs.declared.term.Term.{Term}
use Rattle.vsd_terms.specs.declared.term.Term.TheOpen as layer
use Rattle.vsd_terms.specs.declared.term.Term.TheViews.{out-Term, out-roll-Term}
use Rattle.vsd_terms.specs.declared.term.Term.TheVariants.{Named, Param, Builtin, rolls-Named, rolls-Param, rolls-Builtin}
use Rattle.vsd_terms.proofs.Induction.{term_induction}
use Rattle.vsd_lift.specs.Chain.{arguments_in, arguments_of}

pub data Form (t : Term) : Type 0 where
  is_named : (name : ℕ) → (args : List Term) → t ≡ Named name args → Form t
  is_param : (place : ℕ) → t ≡ Param place → Form t
  is_builtin : (b : Kind) → t ≡ Builtin b → Form t

pub form_of : (t : Term) → Form t
form_of = term_induction Form (λ name es. is_named name (map (λ e. e.0) es) refl) (λ place. is_param place refl) (λ b. is_builtin b refl)

out-Named : (name : ℕ) (args : List Term) → out-Term (Named name args) ≡ layer.Named name args
out-Named name args = ap out-Term (sym (rolls-Named name args)) ∙ out-roll-Term (layer.Named name args)

out-Param : (place : ℕ) → out-Term (Param place) ≡ layer.Param place
out-Param place = ap out-Term (sym (rolls-Param place)) ∙ out-roll-Term (layer.Param place)

out-Builtin : (b : Kind) → out-Term (Builtin b) ≡ layer.Builtin b
out-Builtin b = ap out-Term (sym (rolls-Builtin b)) ∙ out-roll-Term (layer.Builtin b)

pub Named≢Param : (name : ℕ) (args : List Term) (place : ℕ) → Named name args ≡ Param place → ⊥
Named≢Param name args place e = let h : layer.Named name args ≡ layer.Param place = sym (out-Named name args) ∙ ap out-Term e ∙ out-Param place in cc

pub Named≢Builtin : (name : ℕ) (args : List Term) (b : Kind) → Named name args ≡ Builtin b → ⊥
Named≢Builtin name args b e = let h : layer.Named name args ≡ layer.Builtin b = sym (out-Named name args) ∙ ap out-Term e ∙ out-Builtin b in cc

pub Param≢Builtin : (place : ℕ) (b : Kind) → Param place ≡ Builtin b → ⊥
Param≢Builtin place b e = let h : layer.Param place ≡ layer.Builtin b = sym (out-Param place) ∙ ap out-Term e ∙ out-Builtin b in cc

pub Named-name : (x y : ℕ) (xs ys : List Term) → Named x xs ≡ Named y ys → x ≡ y
Named-name x y xs ys e = let h : layer.Named x xs ≡ layer.Named y ys = sym (out-Named x xs) ∙ ap out-Term e ∙ out-Named y ys in cc

pub Named-arguments : (x y : ℕ) (xs ys : List Term) → Named x xs ≡ Named y ys → xs ≡ ys
Named-arguments x y xs ys e = let h : layer.Named x xs ≡ layer.Named y ys = sym (out-Named x xs) ∙ ap out-Term e ∙ out-Named y ys in cc

pub Param-place : (x y : ℕ) → Param x ≡ Param y → x ≡ y
Param-place x y e = let h : layer.Param x ≡ layer.Param y = sym (out-Param x) ∙ ap out-Term e ∙ out-Param y in cc

pub Builtin-kind : (x y : Kind) → Builtin x ≡ Builtin y → x ≡ y
Builtin-kind x y e = let P : layer.Term-F Term → layer.Term-F Term → Type 0 = λ p q. p ≡ q in let h : P (layer.Builtin x) (layer.Builtin y) = sym (out-Builtin x) ∙ ap out-Term e ∙ out-Builtin y in cc

pub arguments_of-Named : (name : ℕ) (args : List Term) → arguments_of (Named name args) ≡ args
arguments_of-Named name args = ap arguments_in (out-Named name args)

pub arguments_of-Param : (place : ℕ) → arguments_of (Param place) ≡ []
arguments_of-Param place = ap arguments_in (out-Param place)

pub arguments_of-Builtin : (b : Kind) → arguments_of (Builtin b) ≡ []
arguments_of-Builtin b = ap arguments_in (out-Builtin b)
