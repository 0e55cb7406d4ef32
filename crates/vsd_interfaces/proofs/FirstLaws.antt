-- Types where they first stand: inserting a list is inserting its first ones.
use Rattle.std.proofs.Common.{◌≡◌, Bool, true, false, List, [], ◌∷◌, ◌++◌, if◌then◌else◌, Contains, refl, sym, ap, ◌∙◌, subst, arith, inl, inr}
use Rattle.std.specs.List.{list_any}
use Rattle.std.proofs.lemmas.List.Elements.{Contains-append_left, Contains-append_cases, Contains-push, Contains-push_cases}
use Rattle.std.proofs.lemmas.List.Sums.{fold-append}
use Rattle.indexmap.specs.IndexSet.{insert_all, insert_key}
use Rattle.vsd_terms.specs.declared.term.Term.{Term}
use Rattle.vsd_terms.specs.Equality.{term_eq}
use Rattle.vsd_terms.proofs.TermLemmas.{has_term-Decides}
use Rattle.vsd_interfaces.specs.Interfaces.{firsts}

-- whatever stood before an insertion stands after it
pub insert-keeps : (ts : List Term) (x y : Term) → Contains ts y → Contains (insert_key term_eq ts x) y
insert-keeps ts x y has =
    let M : Bool → Type 0 = λ b. Contains (if b then ts else ts ++ x ∷ []) y in
    elim (list_any (term_eq x) ts) as M [ true ↦ has | false ↦ Contains-append_left ts (x ∷ []) y has ]

pub insert-has : (ts : List Term) (x : Term) → Contains (insert_key term_eq ts x) x
insert-has ts x =
    let M : Bool → Type 0 = λ b. list_any (term_eq x) ts ≡ b → Contains (if b then ts else ts ++ x ∷ []) x in
    let both : M (list_any (term_eq x) ts) = elim (list_any (term_eq x) ts) as M [ true ↦ (λ is. (has_term-Decides ts x).0 is) | false ↦ (λ is. Contains-push ts x) ] in
    both refl

pub all-keeps : (ts xs : List Term) (y : Term) → Contains ts y → Contains (insert_all term_eq ts xs) y
all-keeps ts [] y has = has
all-keeps ts (x ∷ xs) y has = all-keeps (insert_key term_eq ts x) xs y (insert-keeps ts x y has)

inserted-again : (ts : List Term) (x : Term) → Contains ts x → insert_key term_eq ts x ≡ ts
inserted-again ts x has = ap (λ b. if b then ts else ts ++ x ∷ []) ((has_term-Decides ts x).1 has)

pub has_one : (t y : Term) → Contains (t ∷ []) y → t ≡ y
has_one t y has = elim (Contains-push_cases [] t y has) [ inl none ↦ absurd (omega (arith, none.1)) | inr same ↦ same ]

pub has-after : (acc ts : List Term) (y : Term) → Contains ts y → Contains (insert_all term_eq acc ts) y
has-after acc [] y has = absurd (omega (arith, has.1))
has-after acc (t ∷ ts) y has =
    elim (Contains-append_cases (t ∷ []) ts y has) [
      | inl one ↦ all-keeps (insert_key term_eq acc t) ts y (subst (Contains (insert_key term_eq acc t)) (has_one t y one) (insert-has acc t))
      | inr rest ↦ has-after (insert_key term_eq acc t) ts y rest
    ]

step : (acc ts : List Term) (x : Term) → insert_all term_eq acc (insert_key term_eq ts x) ≡ insert_key term_eq (insert_all term_eq acc ts) x
step acc ts x =
    let M : Bool → Type 0 = λ b. list_any (term_eq x) ts ≡ b → insert_all term_eq acc (if b then ts else ts ++ x ∷ []) ≡ insert_key term_eq (insert_all term_eq acc ts) x in
    let both : M (list_any (term_eq x) ts) = elim (list_any (term_eq x) ts) as M [
      | true ↦ (λ is. sym (inserted-again (insert_all term_eq acc ts) x (has-after acc ts x ((has_term-Decides ts x).0 is))))
      | false ↦ (λ is. fold-append (insert_key term_eq) acc ts (x ∷ []))
    ] in
    both refl

merge : (acc ts xs : List Term) → insert_all term_eq acc (insert_all term_eq ts xs) ≡ insert_all term_eq (insert_all term_eq acc ts) xs
merge acc ts [] = refl
merge acc ts (x ∷ xs) = merge acc (insert_key term_eq ts x) xs ∙ ap (λ l. insert_all term_eq l xs) (step acc ts x)

pub insert-firsts : (acc xs : List Term) → insert_all term_eq acc (firsts xs) ≡ insert_all term_eq acc xs
insert-firsts acc xs = merge acc [] xs

-- of what stands after a list only the first ones count
pub firsts-append : (own more : List Term) → firsts (own ++ more) ≡ firsts (own ++ firsts more)
firsts-append own more =
    fold-append (insert_key term_eq) [] own more
    ∙ (sym (insert-firsts (insert_all term_eq [] own) more) ∙ sym (fold-append (insert_key term_eq) [] own (firsts more)))
