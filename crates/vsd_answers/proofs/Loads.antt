-- The latest load of a variable: one operation on, and in other words.
use Rattle.std.proofs.Common.{◌≡◌, ◌⊎◌, inl, inr, ℕ, cond, All, List, [], ◌∷◌, ◌++◌, Option, None, Some, refl, sym, ap, ◌∙◌}
use Rattle.std.proofs.lemmas.Bool.{eq-eqb}
use Rattle.std.proofs.lemmas.Bool.Decides.{eqb_tells}
use Rattle.std.proofs.lemmas.List.Elements.{All-cons, All-head, All-nil, All-tail}
use Rattle.vsd_ast.specs.declared.scripts.Op.{Op}
use Rattle.vsd_ast.specs.declared.scripts.Op.TheVariants.{Load, Unload, Call, Cast}
use Rattle.vsd_answers.specs.Answers.{IsLatestLoad, first_of_both, latest_load, loaded}

first_of_both-none : (a : Option ℕ) → first_of_both a None ≡ a
first_of_both-none None = refl
first_of_both-none (Some root) = refl

first_of_both_assoc : (a b c : Option ℕ) → first_of_both (first_of_both a b) c ≡ first_of_both a (first_of_both b c)
first_of_both_assoc None b c = refl
first_of_both_assoc (Some root) b c = refl

-- the last operation's load comes before those of the others
pub latest_load-push : (v : ℕ) (ops : List Op) (op : Op) → latest_load v (ops ++ op ∷ []) ≡ first_of_both (loaded v op) (latest_load v ops)
latest_load-push v [] op = sym (first_of_both-none (loaded v op))
latest_load-push v (x ∷ ops) op =
    ap (λ load. first_of_both load (loaded v x)) (latest_load-push v ops op) ∙ first_of_both_assoc (loaded v op) (latest_load v ops) (loaded v x)

option_cases : (o : Option ℕ) → ((root : ℕ) × (o ≡ Some root)) ⊎ (o ≡ None)
option_cases None = inr refl
option_cases (Some root) = inl (root, refl)

module _ (v : ℕ) where
  pub none_loaded : (ops : List Op) → All (λ op. loaded v op ≡ None) ops → latest_load v ops ≡ None
  none_loaded [] none = refl
  none_loaded (op ∷ ops) none =
      ap (λ load. first_of_both load (loaded v op)) (none_loaded ops (All-tail (λ o. loaded v o ≡ None) op ops none))
      ∙ All-head (λ o. loaded v o ≡ None) op ops none

  pub loads_none : (ops : List Op) → latest_load v ops ≡ None → All (λ op. loaded v op ≡ None) ops
  loads_none [] none = All-nil (λ o. loaded v o ≡ None)
  loads_none (op ∷ ops) none =
      elim (option_cases (latest_load v ops)) [
        | inl some ↦ absurd (let no : Some some.0 ≡ None = sym (ap (λ load. first_of_both load (loaded v op)) some.1) ∙ none in cc)
        | inr rest ↦ All-cons (λ o. loaded v o ≡ None) op ops (sym (ap (λ load. first_of_both load (loaded v op)) rest) ∙ none) (loads_none ops rest)
      ]

  -- an operation that loads a root into the variable
  load_of : (op : Op) (root : ℕ) → loaded v op ≡ Some root → op ≡ Load v root
  load_of (Load other root') root is =
      elim (eqb_tells other v) [
        | inl same ↦ (let e : Some root' ≡ Some root = sym (ap (λ b. cond {A = Option ℕ} b (Some root') None) same.0) ∙ is in let r : root' ≡ root = cc in ap (λ x. Load x root') same.1 ∙ ap (Load v) r)
        | inr differs ↦ absurd (let e : None ≡ Some root = sym (ap (λ b. cond {A = Option ℕ} b (Some root') None) differs.0) ∙ is in cc)
      ]
  load_of (Unload other) root is = absurd (let no : None ≡ Some root = is in cc)
  load_of (Call site object) root is = absurd (let no : None ≡ Some root = is in cc)
  load_of (Cast source target) root is = absurd (let no : None ≡ Some root = is in cc)

  pub latest_is_last : (ops : List Op) (root : ℕ) → latest_load v ops ≡ Some root → IsLatestLoad v root ops
  latest_is_last [] root is = absurd (let no : None ≡ Some root = is in cc)
  latest_is_last (op ∷ ops) root is =
      elim (option_cases (latest_load v ops)) [
        | inl some ↦ (let e : latest_load v ops ≡ Some root = some.1 ∙ (sym (ap (λ load. first_of_both load (loaded v op)) some.1) ∙ is) in
            let l = latest_is_last ops root e in
            record { before = op ∷ l.before; after = l.after; whole = ap (λ rest. op ∷ rest) l.whole; last = l.last })
        | inr rest ↦ (let e : loaded v op ≡ Some root = sym (ap (λ load. first_of_both load (loaded v op)) rest) ∙ is in
            record { before = []; after = ops; whole = ap (λ o. o ∷ ops) (load_of op root e); last = loads_none ops rest })
      ]

  last_here : (before after : List Op) (root : ℕ) → All (λ op. loaded v op ≡ None) after → latest_load v (before ++ Load v root ∷ after) ≡ Some root
  last_here [] after root last =
      ap (λ load. first_of_both load (loaded v (Load v root))) (none_loaded after last)
      ∙ ap (λ b. cond {A = Option ℕ} b (Some root) None) (eq-eqb v v refl)
  last_here (op ∷ before) after root last = ap (λ load. first_of_both load (loaded v op)) (last_here before after root last)

  pub last_is_latest : (ops : List Op) (root : ℕ) → IsLatestLoad v root ops → latest_load v ops ≡ Some root
  last_is_latest ops root l = ap (latest_load v) l.whole ∙ last_here l.before l.after root l.last
