-- Declarations that show none of the conditions so far lie above and below one another without a cycle.
use Rattle.std.proofs.Common.{◌≡◌, ℕ, Bool, true, false, ◌&&◌, ◌||◌, not, List, [], ◌∷◌, length, map, Option, Some, None, refl, sym, ap, ◌∙◌, eqb}
use Rattle.std.specs.Option.{is_none}
use Rattle.std.proofs.lemmas.Bool.{false≢true}
use Rattle.std.proofs.lemmas.List.{length-map}
use Rattle.vsd_terms.specs.declared.term.Term.{Term}
use Rattle.vsd_terms.specs.declared.term.Term.TheFolds.{fold-roll-Term}
use Rattle.vsd_terms.specs.declared.term.Term.TheOpen as layer
use Rattle.vsd_terms.specs.declared.term.Term.TheVariants.{Named, rolls-Named, rolls-Param, rolls-Builtin}
use Rattle.vsd_terms.proofs.Induction.{term_induction}
use Rattle.vsd_ast.specs.declared.declarations.Decl.{Decl}
use Rattle.vsd_ast.specs.Lookup.{declared, is_lawful, lawful_step, takes, all_true}
use Rattle.vsd_lawful.specs.Tests.{any_named, any_true, is_unknown, is_miscounted, miscounts}
use Rattle.vsd_lawful.specs.Types.{Names, IsUnknown, IsMiscounted}
use Rattle.vsd_lawful.proofs.TypeLemmas.{any_named-Named, one_named-Decides, is_unknown-Decides, is_miscounted-Decides}

pub both_parts : (a b : Bool) → (a && b) ≡ true → (a ≡ true) × (b ≡ true)
both_parts true b e = (refl, e)
both_parts false b e = absurd (false≢true e)

-- a term is lawful where no type in it is unknown or miscounted
module _ (ds : List Decl) where
  abbrev LawfulWhere : Term → Type 0
  LawfulWhere t = any_named (is_unknown ds) t ≡ false → any_named (is_miscounted ds) t ≡ false → is_lawful ds t ≡ true

  pub is_lawful-Named : (name : ℕ) (args : List Term) → is_lawful ds (Named name args) ≡ (takes (declared ds name) (length args) && all_true (map (is_lawful ds) args))
  is_lawful-Named name args = ap (is_lawful ds) (sym (rolls-Named name args)) ∙ fold-roll-Term Bool (lawful_step ds) (layer.Named name args) ∙ ap (λ n. takes (declared ds name) n && all_true (map (is_lawful ds) args)) (length-map args (is_lawful ds))

  takes_where : (o : Option Decl) (n : ℕ) → is_none o ≡ false → miscounts o n ≡ false → takes o n ≡ true
  takes_where None n known counted = absurd (false≢true (sym known))
  takes_where (Some x) n known counted = by (eqb (length x.params) n) counted
    where
      by : (b : Bool) → not b ≡ false → b ≡ true
      by true e = refl
      by false e = absurd (false≢true (sym e))

  left_false : (a b : Bool) → (a || b) ≡ false → a ≡ false
  left_false true b e = absurd (false≢true (sym e))
  left_false false b e = refl

  right_false : (a b : Bool) → (a || b) ≡ false → b ≡ false
  right_false true b e = absurd (false≢true (sym e))
  right_false false b e = e

  both_true : (a b : Bool) → a ≡ true → b ≡ true → (a && b) ≡ true
  both_true true b e f = f
  both_true false b e f = absurd (false≢true e)

  all_lawful : (es : List ((t : Term) × LawfulWhere t)) → any_true (map (any_named (is_unknown ds)) (map (λ e. e.0) es)) ≡ false → any_true (map (any_named (is_miscounted ds)) (map (λ e. e.0) es)) ≡ false → all_true (map (is_lawful ds) (map (λ e. e.0) es)) ≡ true
  all_lawful [] known counted = refl
  all_lawful (e ∷ es) known counted =
      both_true _ _ (e.1 (left_false _ _ known) (left_false _ _ counted)) (all_lawful es (right_false _ _ known) (right_false _ _ counted))

  lawful_where : (t : Term) → LawfulWhere t
  lawful_where = term_induction LawfulWhere
      (λ name es known counted.
      let ts = map (λ e. e.0) es in
      let k = sym (any_named-Named (is_unknown ds) name ts) ∙ known in
      let c = sym (any_named-Named (is_miscounted ds) name ts) ∙ counted in
      is_lawful-Named name ts ∙ both_true _ _ (takes_where (declared ds name) (length ts) (left_false _ _ k) (left_false _ _ c)) (all_lawful es (right_false _ _ k) (right_false _ _ c)))
      (λ place known counted. ap (is_lawful ds) (sym (rolls-Param place)) ∙ fold-roll-Term Bool (lawful_step ds) (layer.Param place))
      (λ b known counted. ap (is_lawful ds) (sym (rolls-Builtin b)) ∙ fold-roll-Term Bool (lawful_step ds) (layer.Builtin b))

  not_true : (b : Bool) → ¬ (b ≡ true) → b ≡ false
  not_true true no_one = absurd (no_one refl)
  not_true false no_one = refl

  -- the same in the words of the conditions
  pub is_lawful_where : (t : Term) → ¬ Names (IsUnknown ds) (t ∷ []) → ¬ Names (IsMiscounted ds) (t ∷ []) → is_lawful ds t ≡ true
  is_lawful_where t known counted = lawful_where t
      (not_true _ (λ h. known ((one_named-Decides (is_unknown ds) (IsUnknown ds) (is_unknown-Decides ds) t).0 h)))
      (not_true _ (λ h. counted ((one_named-Decides (is_miscounted ds) (IsMiscounted ds) (is_miscounted-Decides ds) t).0 h)))
