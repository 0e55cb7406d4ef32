-- The numbering of pairs, in other words.
use Rattle.std.proofs.Common.{◌≡◌, inl, inr, ℕ, zero, suc, ◌+◌, ◌<◌, ◌≤◌, true, false, cond, nat_eq, ◌&&◌, All, List, [], ◌∷◌, ◌++◌, length, take, get_or, slice_index, refl, sym, ap, subst, ◌∙◌, arith, add-one}
use Rattle.std.proofs.lemmas.Bool.{cases_lt, eqb-true}
use Rattle.std.proofs.lemmas.List.{get_or-map, get_or_append_left, get_or_push, length-map, length_push, take_all, take_more}
use Rattle.std.proofs.lemmas.List.Elements.{All-get_or, All-nil, All-push, All-weaker}
use Rattle.std.proofs.lemmas.List.Sums.{fold-append}
use Rattle.vsd_answers.specs.Numbering.{IsNumbering, Pair, is_listed, place_of_pair, same_pair, site_tokens_of, tokens_of, with_pair}
use Rattle.vsd_answers.proofs.Pairs.{cases_listed, listed_last, listed_stays, place_last, place_stays, place_within, same_pair-refl}

abbrev pair : List Pair → ℕ → Pair
pair ps i = get_or ps i (0, 0)

same_pair-same : (p q : Pair) → same_pair p q ≡ true → p ≡ q
same_pair-same p q is =
    let first : nat_eq p.0 q.0 ≡ true = elim (nat_eq p.0 q.0) as (λ b. (b && nat_eq p.1 q.1) ≡ true → b ≡ true) [ true ↦ λ _. refl | false ↦ λ no. no ] is in
    let second : nat_eq p.1 q.1 ≡ true = elim (nat_eq p.0 q.0) as (λ b. (b && nat_eq p.1 q.1) ≡ true → nat_eq p.1 q.1 ≡ true) [ true ↦ λ h. h | false ↦ λ no. absurd (let bad : false ≡ true = no in cc) ] is in
    let e : p.0 ≡ q.0 = eqb-true p.0 q.0 first in
    let f : p.1 ≡ q.1 = eqb-true p.1 q.1 second in
    ap (λ x. (x, p.1)) e ∙ ap (λ y. (q.0, y)) f

-- a listed pair stands at its place
place_own : (ts : List Pair) (p : Pair) → is_listed ts p ≡ true → pair ts (place_of_pair ts p) ≡ p
place_own [] p e = absurd (let no : false ≡ true = e in cc)
place_own (t ∷ ts) p e =
    elim (same_pair t p) as (λ b. (b ≡ same_pair t p) → cond b true (is_listed ts p) ≡ true → pair (t ∷ ts) (cond b 0 (place_of_pair ts p + 1)) ≡ p) [
      | true ↦ λ is _. same_pair-same t p (sym is)
      | false ↦ λ _ found. ap (pair (t ∷ ts)) (add-one (place_of_pair ts p)) ∙ place_own ts p found
    ] refl e

-- what stands in a list is listed
listed_at : (ts : List Pair) (i : ℕ) (p : Pair) → i < length ts → pair ts i ≡ p → is_listed ts p ≡ true
listed_at [] i p below is = absurd (omega arith)
listed_at (t ∷ ts) zero p below is = ap (λ b. cond b true (is_listed ts p)) (subst (λ q. same_pair t q ≡ true) is (same_pair-refl t))
listed_at (t ∷ ts) (suc i) p below is =
    elim (same_pair t p) as (λ b. cond b true (is_listed ts p) ≡ true) [ true ↦ refl | false ↦ listed_at ts i p (omega arith) is ]

-- tokens of pairs, told by places
record Grown (ps ts : List Pair) : Type 0 where
  listed : All (λ p. is_listed ts p ≡ true) ps
  distinct : (i j : ℕ) → i < length ts → j < length ts → pair ts i ≡ pair ts j → i ≡ j
  used : (t : ℕ) → t < length ts → (s : ℕ) × (s < length ps) × (place_of_pair ts (pair ps s) ≡ t)
  in_order : (s t : ℕ) → s < length ps → t < place_of_pair ts (pair ps s) → (e : ℕ) × (e < s) × (place_of_pair ts (pair ps e) ≡ t)

module _ (ps ts : List Pair) (p : Pair) (g : Grown ps ts) where
  -- a place in the pairs so far, where one more comes
  kept : (s : ℕ) → s < length ps → pair (ps ++ p ∷ []) s ≡ pair ps s
  kept s below = get_or_append_left ps (p ∷ []) (0, 0) s below

  last : (s : ℕ) → s < length (ps ++ p ∷ []) → length ps ≤ s → s ≡ length ps
  last s below past = omega (arith, length_push ps p)

  grown_old : is_listed ts p ≡ true → Grown (ps ++ p ∷ []) ts
  grown_old found = record {
    listed = All-push (λ q. is_listed ts q ≡ true) ps p g.listed found;
    distinct = g.distinct;
    used = λ t below.
        let u = g.used t below in
        (u.0, (let within = u.1 in omega (arith, length_push ps p)), ap (place_of_pair ts) (kept u.0 u.1) ∙ u.2);
    in_order = λ s t below under.
        elim (cases_lt s (length ps)) [
          | inl before ↦ (let e = g.in_order s t before (subst (λ q. t < place_of_pair ts q) (kept s before) under) in
              (e.0, e.1, ap (place_of_pair ts) (kept e.0 (let lower = e.1 in omega arith)) ∙ e.2))
          | inr past ↦ (let end = last s below past in
              let own : pair (ps ++ p ∷ []) s ≡ p = get_or_push ps p (0, 0) s (sym end) in
              let low : t < place_of_pair ts p = subst (λ q. t < place_of_pair ts q) own under in
              let u = g.used t (let within = place_within ts p found in omega arith) in
              (u.0, (let first = u.1 in omega arith), ap (place_of_pair ts) (kept u.0 u.1) ∙ u.2))
        ];
  }

  module _ (none : is_listed ts p ≡ false) where
    -- the place of an earlier pair stays
    stays : (s : ℕ) → s < length ps → place_of_pair (ts ++ p ∷ []) (pair (ps ++ p ∷ []) s) ≡ place_of_pair ts (pair ps s)
    stays s below =
        ap (place_of_pair (ts ++ p ∷ [])) (kept s below)
        ∙ place_stays ts (p ∷ []) (pair ps s) (All-get_or (λ q. is_listed ts q ≡ true) ps s (0, 0) below g.listed)

    other : (i : ℕ) → i < length ts → pair ts i ≡ p → ⊥
    other i below is = let no : false ≡ true = sym none ∙ listed_at ts i p below is in cc

    earlier : (t : ℕ) → t < length ts → (s : ℕ) × (s < length ps) × (place_of_pair (ts ++ p ∷ []) (pair (ps ++ p ∷ []) s) ≡ t)
    earlier t below = let u = g.used t below in (u.0, u.1, stays u.0 u.1 ∙ u.2)

    end_of : (i : ℕ) → i < length (ts ++ p ∷ []) → length ts ≤ i → i ≡ length ts
    end_of i below past = omega (arith, length_push ts p)

    grown_new : Grown (ps ++ p ∷ []) (ts ++ p ∷ [])
    grown_new = record {
      listed =
          All-push (λ q. is_listed (ts ++ p ∷ []) q ≡ true) ps p
          (All-weaker (λ q. is_listed ts q ≡ true) (λ q. is_listed (ts ++ p ∷ []) q ≡ true) (λ q found. listed_stays ts (p ∷ []) q found) ps g.listed)
          (listed_last ts p);
      distinct = λ i j i_in j_in same.
          elim (cases_lt i (length ts)) [
            | inl i_low ↦ elim (cases_lt j (length ts)) [
              | inl j_low ↦ g.distinct i j i_low j_low (sym (get_or_append_left ts (p ∷ []) (0, 0) i i_low) ∙ (same ∙ get_or_append_left ts (p ∷ []) (0, 0) j j_low))
              | inr j_past ↦ absurd (other i i_low (sym (get_or_append_left ts (p ∷ []) (0, 0) i i_low) ∙ (same ∙ get_or_push ts p (0, 0) j (sym (end_of j j_in j_past)))))
            ]
            | inr i_past ↦ elim (cases_lt j (length ts)) [
              | inl j_low ↦ absurd (other j j_low (sym (get_or_append_left ts (p ∷ []) (0, 0) j j_low) ∙ (sym same ∙ get_or_push ts p (0, 0) i (sym (end_of i i_in i_past)))))
              | inr j_past ↦ end_of i i_in i_past ∙ sym (end_of j j_in j_past)
            ]
          ];
      used = λ t below.
          elim (cases_lt t (length ts)) [
            | inl low ↦ (let u = earlier t low in (u.0, (let first = u.1 in omega (arith, length_push ps p)), u.2))
            | inr past ↦ (
              length ps,
              omega (arith, length_push ps p),
              ap (place_of_pair (ts ++ p ∷ [])) (get_or_push ps p (0, 0) (length ps) refl) ∙ (place_last ts p none ∙ sym (end_of t below past)),
            )
          ];
      in_order = λ s t below under.
          elim (cases_lt s (length ps)) [
            | inl before ↦ (let e = g.in_order s t before (subst (λ n. t < n) (stays s before) under) in
                (e.0, e.1, stays e.0 (let lower = e.1 in omega arith) ∙ e.2))
            | inr past ↦ (let end = last s below past in
                let own : place_of_pair (ts ++ p ∷ []) (pair (ps ++ p ∷ []) s) ≡ length ts = ap (place_of_pair (ts ++ p ∷ [])) (get_or_push ps p (0, 0) s (sym end)) ∙ place_last ts p none in
                let u = earlier t (subst (λ n. t < n) own under) in
                (u.0, (let first = u.1 in omega arith), u.2))
          ];
    }

grown_more : (ps ts : List Pair) (p : Pair) → Grown ps ts → Grown (ps ++ p ∷ []) (with_pair ts p)
grown_more ps ts p g =
    cases_listed ts p (λ b. Grown (ps ++ p ∷ []) (cond b ts (ts ++ p ∷ []))) (λ found. grown_old ps ts p g found) (λ none. grown_new ps ts p g none)

grown_up_to : (pairs : List Pair) (i : ℕ) → i ≤ length pairs → Grown (take i pairs) (tokens_of (take i pairs))
grown_up_to pairs zero below = record {
  listed = All-nil (λ q. is_listed [] q ≡ true);
  distinct = λ i j i_in j_in same. absurd (omega arith);
  used = λ t none. absurd (omega arith);
  in_order = λ s t none under. absurd (omega arith);
}
grown_up_to pairs (suc i) below =
    let before : i < length pairs = omega arith in
    let p = pair pairs i in
    let seen : take (suc i) pairs ≡ take i pairs ++ p ∷ [] = ap (λ n. take n pairs) (sym (add-one i)) ∙ take_more pairs i (0, 0) before in
    let made : tokens_of (take i pairs ++ p ∷ []) ≡ with_pair (tokens_of (take i pairs)) p = fold-append with_pair [] (take i pairs) (p ∷ []) in
    subst (λ l. Grown l (tokens_of l)) (sym seen)
    (subst (λ ts. Grown (take i pairs ++ p ∷ []) ts) (sym made) (grown_more (take i pairs) (tokens_of (take i pairs)) p (grown_up_to pairs i (omega arith))))

pub is_numbering : (pairs : List Pair) → IsNumbering pairs (tokens_of pairs) (site_tokens_of pairs)
is_numbering pairs =
    let ts = tokens_of pairs in
    let all : take (length pairs) pairs ≡ pairs = take_all (length pairs) pairs (omega arith) in
    let g : Grown pairs ts = subst (λ l. Grown l (tokens_of l)) all (grown_up_to pairs (length pairs) (omega arith)) in
    let at : (s : ℕ) → s < length pairs → slice_index (site_tokens_of pairs) s ≡ place_of_pair ts (pair pairs s) = λ s below. get_or-map (place_of_pair ts) pairs s (0, 0) 0 below in
    let found : (s : ℕ) → s < length pairs → is_listed ts (pair pairs s) ≡ true = λ s below. All-get_or (λ q. is_listed ts q ≡ true) pairs s (0, 0) below g.listed in
    record {
      distinct = g.distinct;
      count = length-map pairs (place_of_pair ts);
      within = λ s below. subst (λ n. n < length ts) (sym (at s below)) (place_within ts (pair pairs s) (found s below));
      own = λ s below. ap (pair ts) (at s below) ∙ place_own ts (pair pairs s) (found s below);
      used = λ t below. let u = g.used t below in (u.0, u.1, at u.0 u.1 ∙ u.2);
      in_order = λ s t below under.
          let e = g.in_order s t below (subst (λ n. t < n) (at s below) under) in
          (e.0, e.1, at e.0 (let lower = e.1 in omega arith) ∙ e.2);
    }
