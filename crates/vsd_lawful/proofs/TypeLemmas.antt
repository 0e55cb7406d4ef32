-- What the tests of types find: a named type in the terms.
use Rattle.std.proofs.Common.{◌≡◌, ℕ, Bool, true, false, ◌||◌, eqb, List, [], ◌∷◌, ◌++◌, length, map, Option, Some, None, refl, sym, ap, ◌∙◌}
use Rattle.std.specs.Bool.{Decides}
use Rattle.std.specs.List.{Any, list_any, flat_map}
use Rattle.std.specs.Option.{IsSomeAnd, is_none}
use Rattle.std.proofs.lemmas.Bool.{false≢true}
use Rattle.std.proofs.lemmas.Bool.Decides.{Decides-not, Decides-eqb}
use Rattle.std.proofs.lemmas.List.{length-map}
use Rattle.std.proofs.lemmas.List.Folds.{Any-from_list_any, list_any-from_Any, list_any-append}
use Rattle.vsd_ast.specs.declared.declarations.Decl.{Decl}
use Rattle.vsd_ast.specs.Lookup.{declared}
use Rattle.vsd_terms.proofs.Induction.{term_induction}
use Rattle.vsd_terms.specs.declared.term.Term.{Term}
use Rattle.vsd_terms.specs.declared.term.Term.TheFolds.{fold-roll-Term}
use Rattle.vsd_terms.specs.declared.term.Term.TheOpen as layer
use Rattle.vsd_terms.specs.declared.term.Term.TheVariants.{Named, rolls-Named, rolls-Param, rolls-Builtin}
use Rattle.vsd_lawful.specs.Tests.{any_named, any_step, any_true, is_unknown, is_miscounted, miscounts}
use Rattle.vsd_lawful.specs.Types.{named_in, named_step, Names, IsUnknown, IsMiscounted}

or_assoc : (a b c : Bool) → ((a || b) || c) ≡ (a || (b || c))
or_assoc true b c = refl
or_assoc false b c = refl

-- a test of two lists of terms
pub any_named_append : (test : ℕ × ℕ → Bool) (xs ys : List Term) → any_true (map (any_named test) (xs ++ ys)) ≡ (any_true (map (any_named test) xs) || any_true (map (any_named test) ys))
any_named_append test [] ys = refl
any_named_append test (x ∷ xs) ys = ap (λ b. any_named test x || b) (any_named_append test xs ys) ∙ sym (or_assoc (any_named test x) (any_true (map (any_named test) xs)) (any_true (map (any_named test) ys)))

or_false : (a : Bool) → (a || false) ≡ a
or_false true = refl
or_false false = refl

module _ (test : ℕ × ℕ → Bool) where
  pub any_named-Named : (name : ℕ) (args : List Term) → any_named test (Named name args) ≡ (test (name, length args) || any_true (map (any_named test) args))
  any_named-Named name args = ap (any_named test) (sym (rolls-Named name args)) ∙ fold-roll-Term Bool (any_step test) (layer.Named name args) ∙ ap (λ n. test (name, n) || any_true (map (any_named test) args)) (length-map args (any_named test))

  named_in-Named : (name : ℕ) (args : List Term) → named_in (Named name args) ≡ (name, length args) ∷ flat_map (λ inner. inner) (map named_in args)
  named_in-Named name args = ap named_in (sym (rolls-Named name args)) ∙ fold-roll-Term (List (ℕ × ℕ)) named_step (layer.Named name args) ∙ ap (λ n. (name, n) ∷ flat_map (λ inner. inner) (map named_in args)) (length-map args named_in)

  abbrev LooksAt : Term → Type 0
  LooksAt t = any_named test t ≡ list_any test (named_in t)

  all_look : (es : List ((t : Term) × LooksAt t)) → any_true (map (any_named test) (map (λ e. e.0) es)) ≡ list_any test (flat_map (λ inner. inner) (map named_in (map (λ e. e.0) es)))
  all_look [] = refl
  all_look (e ∷ es) =
      let rest = all_look es in
      let here = e.1 in
      let joined = list_any-append test (named_in e.0) (flat_map (λ inner. inner) (map named_in (map (λ e. e.0) es))) in
      cc

  -- the test of a term looks at its named types
  any_named-list_any : (t : Term) → LooksAt t
  any_named-list_any = term_induction LooksAt
      (λ name es.
      let ts = map (λ e. e.0) es in
      any_named-Named name ts ∙ ap (λ b. test (name, length ts) || b) (all_look es) ∙ ap (list_any test) (sym (named_in-Named name ts)))
      (λ place. ap (any_named test) (sym (rolls-Param place)) ∙ fold-roll-Term Bool (any_step test) (layer.Param place) ∙ ap (list_any test) (sym (ap named_in (sym (rolls-Param place)) ∙ fold-roll-Term (List (ℕ × ℕ)) named_step (layer.Param place))))
      (λ b. ap (any_named test) (sym (rolls-Builtin b)) ∙ fold-roll-Term Bool (any_step test) (layer.Builtin b) ∙ ap (list_any test) (sym (ap named_in (sym (rolls-Builtin b)) ∙ fold-roll-Term (List (ℕ × ℕ)) named_step (layer.Builtin b))))

  all_named : (ts : List Term) → any_true (map (any_named test) ts) ≡ list_any test (flat_map named_in ts)
  all_named [] = refl
  all_named (t ∷ ts) =
      let here = any_named-list_any t in
      let rest = all_named ts in
      let joined = list_any-append test (named_in t) (flat_map named_in ts) in
      cc

  module _ (P : ℕ × ℕ → Type 0) (each : (type : ℕ × ℕ) → Decides (test type) (P type)) where
    finds : (types : List (ℕ × ℕ)) → Decides (list_any test types) (Any P types)
    finds types = (
      λ h. let w = Any-from_list_any test types h in (w.0, w.1, w.2, w.3, (each w.1).0 w.4),
      λ w. list_any-from_Any test types (w.0, w.1, w.2, w.3, (each w.1).1 w.4),
    )

    -- the test of several terms finds a named type with the property
    pub any_named-Decides : (ts : List Term) → Decides (any_true (map (any_named test) ts)) (Names P ts)
    any_named-Decides ts = let d = finds (flat_map named_in ts) in (λ h. d.0 (sym (all_named ts) ∙ h), λ w. all_named ts ∙ d.1 w)

    -- the same of one term
    pub one_named-Decides : (t : Term) → Decides (any_named test t) (Names P (t ∷ []))
    one_named-Decides t = let d = any_named-Decides (t ∷ []) in (λ h. d.0 (or_false (any_named test t) ∙ h), λ w. sym (or_false (any_named test t)) ∙ d.1 w)

module _ (ds : List Decl) where
  pub is_unknown-Decides : (type : ℕ × ℕ) → Decides (is_unknown ds type) (IsUnknown ds type)
  is_unknown-Decides type = none (declared ds type.0)
    where
      none : (o : Option Decl) → Decides (is_none o) (o ≡ None)
      none None = (λ _. refl, λ _. refl)
      none (Some x) = (λ h. absurd (false≢true h), λ e. absurd cc)

  pub is_miscounted-Decides : (type : ℕ × ℕ) → Decides (is_miscounted ds type) (IsMiscounted ds type)
  is_miscounted-Decides type = counts (declared ds type.0)
    where
      counts : (o : Option Decl) → Decides (miscounts o type.1) (IsSomeAnd o (λ (x : Decl). ¬ (length x.params ≡ type.1)))
      counts None = (λ h. absurd (false≢true h), λ w. absurd w)
      counts (Some x) = Decides-not (eqb (length x.params) type.1) (Decides-eqb (length x.params) type.1)

-- an answer that is a test decides what the test does
pub decides_as : (R : Type 0) (b c : Bool) → b ≡ c → Decides c R → Decides b R
decides_as R b c e d = (λ h. d.0 (sym e ∙ h), λ r. e ∙ d.1 r)
