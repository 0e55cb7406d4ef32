-- What adding types gives, case by case, and that it only adds at the end.
use Rattle.std.proofs.Common.{◌≡◌, ℕ, ◌<◌, ◌≤◌, Bool, true, false, ◌⊎◌, inl, inr, List, [], ◌∷◌, ◌++◌, length, All, Contains, Result, Ok, Err, if◌then◌else◌, nat_lt, refl, sym, ap, ◌∙◌, subst, append_assoc}
use Rattle.std.specs.List.{list_any}
use Rattle.std.proofs.lemmas.Bool.{lt-ltb, le-ltb}
use Rattle.std.proofs.lemmas.List.{append-nil}
use Rattle.std.proofs.lemmas.List.Elements.{All-push, All-head, All-tail, All-same}
use Rattle.std.proofs.lemmas.List.Folds.{fold_stays}
use Rattle.vsd_terms.specs.declared.term.Term.{Term}
use Rattle.vsd_terms.specs.Equality.{term_eq}
use Rattle.indexmap.specs.IndexSet.{insert_key}
use Rattle.vsd_terms.proofs.TermLemmas.{has_term-Decides}
use Rattle.vsd_types.specs.declared.error.CloseError.{CloseError}
use Rattle.vsd_types.specs.declared.error.CloseError.TheVariants.{TooDeep, TooManyTypes}
use Rattle.vsd_types.specs.Closing.{Extends, is_too_deep, add, add_to, add_all}

module _ (types : List Term) (t : Term) (absent : ¬ Contains types t) where
  pub not_there : list_any (term_eq t) types ≡ false
  not_there = by (list_any (term_eq t) types) refl
    where
      by : (b : Bool) → list_any (term_eq t) types ≡ b → list_any (term_eq t) types ≡ false
      by true there = absurd (absent ((has_term-Decides types t).0 there))
      by false none = none

  pub inserted : insert_key term_eq types t ≡ types ++ t ∷ []
  inserted = ap (λ b. if b then types else types ++ t ∷ []) not_there

module _ (names : List (List ℕ)) (types : List Term) (t : Term) where
  pub add-deep : is_too_deep names t ≡ true → add names types t ≡ Err TooDeep
  unfolding add
  add-deep deep = ap (λ b. if b then Err TooDeep else (if list_any (term_eq t) types then Ok types else (if nat_lt (length types) 1024 then Ok (types ++ t ∷ []) else Err TooManyTypes))) deep

  module _ (fine : is_too_deep names t ≡ false) where
    shallow : add names types t ≡ (if list_any (term_eq t) types then Ok types else (if nat_lt (length types) 1024 then Ok (types ++ t ∷ []) else Err TooManyTypes))
    unfolding add
    shallow = ap (λ b. if b then Err TooDeep else (if list_any (term_eq t) types then Ok types else (if nat_lt (length types) 1024 then Ok (types ++ t ∷ []) else Err TooManyTypes))) fine

    pub add-there : Contains types t → add names types t ≡ Ok types
    add-there there = shallow ∙ ap (λ b. if b then Ok types else (if nat_lt (length types) 1024 then Ok (types ++ t ∷ []) else Err TooManyTypes)) ((has_term-Decides types t).1 there)

    module _ (absent : ¬ Contains types t) where
      new : add names types t ≡ (if nat_lt (length types) 1024 then Ok (types ++ t ∷ []) else Err TooManyTypes)
      new = shallow ∙ ap (λ b. if b then Ok types else (if nat_lt (length types) 1024 then Ok (types ++ t ∷ []) else Err TooManyTypes)) (not_there types t absent)

      pub add-full : 1024 ≤ length types → add names types t ≡ Err TooManyTypes
      add-full full = new ∙ ap (λ b. if b then Ok (types ++ t ∷ []) else Err TooManyTypes) (le-ltb (length types) 1024 full)

      pub add-new : length types < 1024 → add names types t ≡ Ok (types ++ t ∷ [])
      add-new room = new ∙ ap (λ b. if b then Ok (types ++ t ∷ []) else Err TooManyTypes) (lt-ltb (length types) 1024 room)

same_ok : (x y : List Term) → (let r : Result (List Term) CloseError = Ok x in r) ≡ Ok y → x ≡ y
same_ok x y e = cc

pub add_to-Err : (names : List (List ℕ)) (e : CloseError) (ts : List Term) → add_all names (Err e) ts ≡ Err e
add_to-Err names e ts = fold_stays (add_to names) (Err e) (λ t. refl) ts

pub Extends-itself : (types : List Term) → Extends types types
Extends-itself types = ([], sym (append-nil types))

pub Extends-twice : (a b c : List Term) → Extends a b → Extends b c → Extends a c
Extends-twice a b c first second =
    (first.0 ++ second.0, second.1 ∙ ap (λ l. l ++ second.0) first.1 ∙ append_assoc a first.0 second.0)

-- ---- what stays true as types are added

-- the type that is added is there or comes last
pub add-cases : (names : List (List ℕ)) (types new : List Term) (t : Term) → add names types t ≡ Ok new → (Contains types t × (new ≡ types)) ⊎ ((¬ Contains types t) × (new ≡ types ++ t ∷ []))
unfolding add
add-cases names types new t added =
    by (is_too_deep names t) (list_any (term_eq t) types) (nat_lt (length types) 1024) refl added
  where
    by : (deep there room : Bool) → list_any (term_eq t) types ≡ there → (if deep then Err TooDeep else (if there then Ok types else (if room then Ok (types ++ t ∷ []) else Err TooManyTypes))) ≡ Ok new → (Contains types t × (new ≡ types)) ⊎ ((¬ Contains types t) × (new ≡ types ++ t ∷ []))
    by true there room e h = absurd cc
    by false true room e h = inl ((has_term-Decides types t).0 e, sym (same_ok _ _ h))
    by false false true e h = inr ((λ there. let k = (has_term-Decides types t).1 there in absurd cc), sym (same_ok _ _ h))
    by false false false e h = absurd cc

module _ (names : List (List ℕ)) (P : Term → Type 0) (Q : List Term → Type 0) (step : (xs ys : List Term) (t : Term) → P t → Q xs → add names xs t ≡ Ok ys → Q ys) where
  -- what adding one type keeps, adding many keeps
  pub add_all-keeps : (xs ys ts : List Term) → All P ts → Q xs → add_all names (Ok xs) ts ≡ Ok ys → Q ys
  add_all-keeps xs ys [] all held added = subst Q (same_ok _ _ added) held
  add_all-keeps xs ys (t ∷ ts) all held added =
      let M : Result (List Term) CloseError → Type 0 = λ r. add names xs t ≡ r → add_all names r ts ≡ Ok ys → Q ys in
      let both : M (add names xs t) = elim (add names xs t) as M [
        | Err e ↦ (λ is h. let k : Err e ≡ Ok ys = sym (add_to-Err names e ts) ∙ h in absurd cc)
        | Ok zs ↦ (λ is h. add_all-keeps zs ys ts (All-tail P t ts all) (step xs zs t (All-head P t ts all) held is) h)
      ] in
      both refl added

pub add-All : (names : List (List ℕ)) (P : Term → Type 0) (types new : List Term) (t : Term) → P t → All P types → add names types t ≡ Ok new → All P new
add-All names P types new t fit all added =
    elim (add-cases names types new t added) [
      | inl there ↦ All-same P new types there.1 all
      | inr last ↦ All-same P new (types ++ t ∷ []) last.1 (All-push P types t all fit)
    ]

pub add_all-All : (names : List (List ℕ)) (P : Term → Type 0) (types new more : List Term) → All P more → All P types → add_all names (Ok types) more ≡ Ok new → All P new
add_all-All names P types new more fit all added =
    add_all-keeps names P (All P) (λ xs ys t here held is. add-All names P xs ys t here held is) types new more fit all added
