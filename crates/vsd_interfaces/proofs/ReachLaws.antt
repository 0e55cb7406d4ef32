-- The interfaces of a class are those that it reaches, each once.
use Rattle.std.proofs.Common.{◌≡◌, ℕ, zero, suc, ◌+◌, ◌<◌, ◌⊎◌, inl, inr, Bool, true, false, if◌then◌else◌, List, [], ◌∷◌, ◌++◌, length, Some, Contains, refl, sym, ap, ◌∙◌, subst, arith}
use Rattle.std.specs.List.{flat_map, list_any, slice_get}
use Rattle.std.proofs.lemmas.Bool.{cases_lt, false≢true}
use Rattle.std.proofs.lemmas.List.{get_or_append_left, get_or_push, length-append}
use Rattle.std.proofs.lemmas.List.Elements.{Contains-append_cases, Contains-append_left, Contains-append_right, Contains-push_cases}
use Rattle.std.proofs.lemmas.Option.{get_or_from_slice_get, slice_get-get_or, slice_get_within}
use Rattle.indexmap.specs.IndexSet.{insert_all, insert_key}
use Rattle.vsd_terms.specs.declared.term.Term.{Term}
use Rattle.vsd_terms.specs.Equality.{term_eq}
use Rattle.vsd_terms.proofs.TermLemmas.{has_term-Decides}
use Rattle.vsd_ast.specs.declared.declarations.Decl.{Decl}
use Rattle.vsd_types.specs.Numbers.{IsDistinct}
use Rattle.vsd_types.specs.Types.{named_of}
use Rattle.vsd_interfaces.specs.Interfaces.{firsts, tree}
use Rattle.vsd_interfaces.specs.Reached.{ListsReached, Reaches}
use Rattle.vsd_interfaces.proofs.FirstLaws.{has-after, has_one}
use Rattle.vsd_interfaces.proofs.RowLaws.{tree-more}

-- ---- the first ones are distinct, and no others

element_at : (ts : List Term) (x : Term) (i : ℕ) (t : Term) → slice_get (ts ++ x ∷ []) i ≡ Some t → (slice_get ts i ≡ Some t) ⊎ ((i ≡ length ts) × (x ≡ t))
element_at ts x i t at =
    let inside = slice_get_within (ts ++ x ∷ []) i t at in
    let read = get_or_from_slice_get (ts ++ x ∷ []) i t t at in
    elim (cases_lt i (length ts)) [
      | inl low ↦ inl (slice_get-get_or ts i t low ∙ ap Some (sym (get_or_append_left ts (x ∷ []) t i low) ∙ read))
      | inr high ↦ (
          let last : i ≡ length ts = omega (arith, inside, high, length-append ts (x ∷ [])) in
          inr (last, sym (get_or_push ts x t i (sym last)) ∙ read)
          )
    ]

listed : (ts : List Term) (i : ℕ) (t : Term) → slice_get ts i ≡ Some t → Contains ts t
listed ts i t at = (i, slice_get_within ts i t at, get_or_from_slice_get ts i t t at)

push-distinct : (ts : List Term) (x : Term) → IsDistinct ts → (Contains ts x → ⊥) → IsDistinct (ts ++ x ∷ [])
push-distinct ts x distinct new i j t at_i at_j =
    elim (element_at ts x i t at_i) [
      | inl a ↦ elim (element_at ts x j t at_j) [
        | inl b ↦ distinct i j t a b
        | inr b ↦ absurd (new (subst (Contains ts) (sym b.1) (listed ts i t a)))
      ]
      | inr a ↦ elim (element_at ts x j t at_j) [
        | inl b ↦ absurd (new (subst (Contains ts) (sym a.1) (listed ts j t b)))
        | inr b ↦ a.0 ∙ sym b.0
      ]
    ]

insert-distinct : (ts : List Term) (x : Term) → IsDistinct ts → IsDistinct (insert_key term_eq ts x)
insert-distinct ts x distinct =
    let M : Bool → Type 0 = λ b. list_any (term_eq x) ts ≡ b → IsDistinct (if b then ts else ts ++ x ∷ []) in
    let both : M (list_any (term_eq x) ts) = elim (list_any (term_eq x) ts) as M [
      | true ↦ (λ is. distinct)
      | false ↦ (λ is. push-distinct ts x distinct (λ there. false≢true (sym is ∙ (has_term-Decides ts x).1 there)))
    ] in
    both refl

pub all-distinct : (ts xs : List Term) → IsDistinct ts → IsDistinct (insert_all term_eq ts xs)
all-distinct ts [] distinct = distinct
all-distinct ts (x ∷ xs) distinct = all-distinct (insert_key term_eq ts x) xs (insert-distinct ts x distinct)

insert-from : (ts : List Term) (x y : Term) → Contains (insert_key term_eq ts x) y → Contains ts y ⊎ (x ≡ y)
insert-from ts x y =
    let M : Bool → Type 0 = λ b. Contains (if b then ts else ts ++ x ∷ []) y → Contains ts y ⊎ (x ≡ y) in
    elim (list_any (term_eq x) ts) as M [ true ↦ (λ there. inl there) | false ↦ (λ there. Contains-push_cases ts x y there) ]

one_has : (x : Term) (xs : List Term) → Contains (x ∷ xs) x
one_has x xs = (0, omega arith, refl)

all-from : (ts xs : List Term) (y : Term) → Contains (insert_all term_eq ts xs) y → Contains ts y ⊎ Contains xs y
all-from ts [] y there = inl there
all-from ts (x ∷ xs) y there =
    elim (all-from (insert_key term_eq ts x) xs y there) [
      | inl before ↦ elim (insert-from ts x y before) [ inl old ↦ inl old | inr same ↦ inr (subst (Contains (x ∷ xs)) same (one_has x xs)) ]
      | inr later ↦ inr (Contains-append_right (x ∷ []) xs y later)
    ]

pub none_has : (y : Term) → Contains [] y → ⊥
none_has y there = omega (arith, there.1)

pub firsts-from : (xs : List Term) (y : Term) → Contains (firsts xs) y → Contains xs y
firsts-from xs y there = elim (all-from [] xs y there) [ inl none ↦ absurd (none_has y none) | inr from ↦ from ]

-- ---- trees

flat-has : (f : Term → List Term) (js : List Term) (j x : Term) → Contains js j → Contains (f j) x → Contains (flat_map f js) x
flat-has f [] j x at there = absurd (none_has j at)
flat-has f (k ∷ js) j x at there =
    elim (Contains-append_cases (k ∷ []) js j at) [
      | inl one ↦ Contains-append_left (f k) (flat_map f js) x (subst (λ w. Contains (f w) x) (sym (has_one k j one)) there)
      | inr rest ↦ Contains-append_right (f k) (flat_map f js) x (flat-has f js j x rest there)
    ]

flat-from : (f : Term → List Term) (js : List Term) (x : Term) → Contains (flat_map f js) x → (j : Term) × Contains js j × Contains (f j) x
flat-from f [] x there = absurd (none_has x there)
flat-from f (k ∷ js) x there =
    elim (Contains-append_cases (f k) (flat_map f js) x there) [
      | inl here ↦ (k, one_has k js, here)
      | inr later ↦ let rest = flat-from f js x later in (rest.0, Contains-append_right (k ∷ []) js rest.0 rest.1, rest.2)
    ]

module _ (ds : List Decl) where
  tree-none : (j x : Term) → Contains (tree ds zero j) x → ⊥
  unfolding tree
  tree-none j x there = none_has x there

  pub reached-from : (k : ℕ) (t x : Term) → Contains (flat_map (tree ds k) (named_of ds t)) x → (n : ℕ) × Reaches ds n t x
  reached-from zero t x there =
      let at = flat-from (tree ds zero) (named_of ds t) x there in
      absurd (tree-none at.0 x at.2)
  reached-from (suc k) t x there =
      let at = flat-from (tree ds (suc k)) (named_of ds t) x there in
      let inside = subst (λ l. Contains l x) (tree-more ds k at.0) at.2 in
      elim (Contains-append_cases (at.0 ∷ []) (flat_map (tree ds k) (named_of ds at.0)) x inside) [
        | inl one ↦ (zero, subst (Contains (named_of ds t)) (has_one at.0 x one) at.1)
        | inr below ↦ let rest = reached-from k at.0 x below in (suc rest.0, (at.0, at.1, rest.1))
      ]

  pub reached-to : (n k : ℕ) (t x : Term) → n < k → Reaches ds n t x → Contains (flat_map (tree ds k) (named_of ds t)) x
  reached-to n zero t x less reaches = absurd (omega (arith, less))
  reached-to zero (suc k) t x less reaches =
      flat-has (tree ds (suc k)) (named_of ds t) x x reaches (subst (λ l. Contains l x) (sym (tree-more ds k x)) (one_has x (flat_map (tree ds k) (named_of ds x))))
  reached-to (suc n) (suc k) t x less reaches =
      let below = reached-to n k reaches.0 x (omega (arith, less)) reaches.2 in
      flat-has (tree ds (suc k)) (named_of ds t) reaches.0 x reaches.1 (subst (λ l. Contains l x) (sym (tree-more ds k reaches.0)) (Contains-append_right (reaches.0 ∷ []) (flat_map (tree ds k) (named_of ds reaches.0)) x below))

pub lists-reached : ListsReached
lists-reached ds t interfaces class are =
    let reached = are.class class in
    let is = reached.whole reached.height (omega arith) in (
      subst IsDistinct (sym is) (all-distinct [] (flat_map (tree ds reached.height) (named_of ds t)) (λ i j u a b. absurd cc)),
      λ i. (
        λ there. reached-from ds reached.height t i (firsts-from (flat_map (tree ds reached.height) (named_of ds t)) i (subst (λ l. Contains l i) is there)),
        λ path.
            let k = reached.height + path.0 + 1 in
            let whole = reached.whole k (omega arith) in
            subst (λ l. Contains l i) (sym whole) (has-after [] (flat_map (tree ds k) (named_of ds t)) i (reached-to ds path.0 k t i (omega arith) path.1)),
      ),
    )
