-- Laws of places: turned twice a place is as it was, an invariant place stays so, and what may stand in one may stand
-- anywhere.
use Rattle.std.proofs.Common.{◌≡◌, ℕ, ◌+◌, Bool, true, ◌&&◌, List, [], ◌∷◌, map, refl, sym, ap, ◌∙◌}
use Rattle.std.specs.Cmp.{first_so, second_so}
use Rattle.std.specs.List.{slice_get}
use Rattle.std.proofs.lemmas.Bool.{false≢true}
use Rattle.vsd_terms.specs.declared.term.Builtin.{Builtin as Kind}
use Rattle.vsd_terms.specs.declared.term.Term.{Term}
use Rattle.vsd_terms.specs.declared.term.Term.TheFolds.{fold-roll-Term}
use Rattle.vsd_terms.specs.declared.term.Term.TheOpen as layer
use Rattle.vsd_terms.specs.declared.term.Term.TheVariants.{Named, Param, Builtin, rolls-Named, rolls-Param, rolls-Builtin}
use Rattle.vsd_terms.proofs.Induction.{term_induction}
use Rattle.vsd_ast.specs.Lookup.{declared}
use Rattle.vsd_ast.specs.declared.declarations.Decl.{Decl}
use Rattle.vsd_ast.specs.declared.declarations.Param.{Param as TypeParam}
use Rattle.vsd_ast.specs.declared.declarations.Sign.{Sign}
use Rattle.vsd_ast.specs.declared.declarations.Sign.TheVariants.{Plus, Minus, Plain}
use Rattle.vsd_roots.specs.Variance.{arguments_valid, inside, is_valid, may_stand, parameter_sign, sign_of, turned, valid_step}
use Rattle.vsd_roots.specs.declared.variance.Position.{Position}
use Rattle.vsd_roots.specs.declared.variance.Position.TheVariants.{Positive, Negative, Invariant}

pub turned-turned : (place : Position) → turned (turned place) ≡ place
turned-turned Positive = refl
turned-turned Negative = refl
turned-turned Invariant = refl

pub turned-invariant : turned Invariant ≡ Invariant
turned-invariant = refl

pub inside-invariant : (sign : Sign) → inside sign Invariant ≡ Invariant
inside-invariant Plus = refl
inside-invariant Minus = refl
inside-invariant Plain = refl

-- under two parameters that turn it round the place is that of the outer type
pub inside-minus_twice : (place : Position) → inside Minus (inside Minus place) ≡ place
inside-minus_twice = turned-turned

may_stand-anywhere : (sign : Sign) (place : Position) → may_stand sign Invariant ≡ true → may_stand sign place ≡ true
may_stand-anywhere Plain place stands = refl
may_stand-anywhere Plus place stands = absurd (false≢true stands)
may_stand-anywhere Minus place stands = absurd (false≢true stands)

module _ (ds : List Decl) (own : List TypeParam) where
  pub is_valid-Named : (name : ℕ) (args : List Term) (place : Position) → is_valid ds own (Named name args) place ≡ arguments_valid ds name 0 (map (is_valid ds own) args) place
  is_valid-Named name args place = ap (λ (t : Term). is_valid ds own t place) (sym (rolls-Named name args)) ∙ ap (λ (f : Position → Bool). f place) (fold-roll-Term (Position → Bool) (valid_step ds own) (layer.Named name args))

  pub is_valid-Param : (n : ℕ) (place : Position) → is_valid ds own (Param n) place ≡ may_stand (sign_of (slice_get own n)) place
  is_valid-Param n place = ap (λ (t : Term). is_valid ds own t place) (sym (rolls-Param n)) ∙ ap (λ (f : Position → Bool). f place) (fold-roll-Term (Position → Bool) (valid_step ds own) (layer.Param n))

  pub is_valid-Builtin : (b : Kind) (place : Position) → is_valid ds own (Builtin b) place ≡ true
  is_valid-Builtin b place = ap (λ (t : Term). is_valid ds own t place) (sym (rolls-Builtin b)) ∙ ap (λ (f : Position → Bool). f place) (fold-roll-Term (Position → Bool) (valid_step ds own) (layer.Builtin b))

  abbrev Anywhere : Term → Type 0
  Anywhere t = (place : Position) → is_valid ds own t Invariant ≡ true → is_valid ds own t place ≡ true

  both_true : {p q : Bool} → p ≡ true → q ≡ true → (p && q) ≡ true
  both_true h k = rw (h, k) refl

  all_anywhere : (name i : ℕ) (es : List ((t : Term) × Anywhere t)) (place : Position) → arguments_valid ds name i (map (is_valid ds own) (map (λ e. e.0) es)) Invariant ≡ true → arguments_valid ds name i (map (is_valid ds own) (map (λ e. e.0) es)) place ≡ true
  all_anywhere name i [] place stands = refl
  all_anywhere name i (e ∷ es) place stands =
      let sign = parameter_sign (declared ds name) i in
      let first = first_so (is_valid ds own e.0 (inside sign Invariant)) (arguments_valid ds name (i + 1) (map (is_valid ds own) (map (λ e. e.0) es)) Invariant) stands in
      let rest = second_so (is_valid ds own e.0 (inside sign Invariant)) (arguments_valid ds name (i + 1) (map (is_valid ds own) (map (λ e. e.0) es)) Invariant) stands in
      both_true (e.1 (inside sign place) (ap (is_valid ds own e.0) (sym (inside-invariant sign)) ∙ first)) (all_anywhere name (i + 1) es place rest)

  -- a term that may stand in an invariant place may stand in any
  pub invariant-anywhere : (t : Term) (place : Position) → is_valid ds own t Invariant ≡ true → is_valid ds own t place ≡ true
  invariant-anywhere = term_induction Anywhere
      (λ name es place stands. let args = map (λ e. e.0) es in is_valid-Named name args place ∙ all_anywhere name 0 es place (sym (is_valid-Named name args Invariant) ∙ stands))
      (λ n place stands. is_valid-Param n place ∙ may_stand-anywhere (sign_of (slice_get own n)) place (sym (is_valid-Param n Invariant) ∙ stands))
      (λ b place stands. is_valid-Builtin b place)
