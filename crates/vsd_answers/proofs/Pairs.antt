-- Places of pairs in a list that grows.
use Rattle.std.proofs.Common.{◌≡◌, ◌≢◌, ◌+◌, ◌<◌, Bool, true, false, cond, All, List, [], ◌∷◌, ◌++◌, length, map, refl, sym, ap, ◌∙◌, arith}
use Rattle.std.proofs.lemmas.Bool.{eq-eqb}
use Rattle.std.proofs.lemmas.List.Elements.{All-head, All-tail}
use Rattle.vsd_answers.specs.Numbering.{Pair, is_listed, place_of_pair, same_pair, with_pair}

pub same_pair-refl : (p : Pair) → same_pair p p ≡ true
same_pair-refl p = rw (eq-eqb p.0 p.0 refl, eq-eqb p.1 p.1 refl) refl

-- a pair that is listed stands before the end
pub place_within : (ts : List Pair) (p : Pair) → is_listed ts p ≡ true → place_of_pair ts p < length ts
place_within [] p e = absurd (let no : false ≡ true = e in cc)
place_within (t ∷ ts) p e =
    elim (same_pair t p) as (λ b. cond b true (is_listed ts p) ≡ true → cond b 0 (place_of_pair ts p + 1) < length (t ∷ ts)) [
      | true ↦ λ _. omega arith
      | false ↦ λ found. let h = place_within ts p found in omega arith
    ] e

pub place_past : (ts : List Pair) (p : Pair) → is_listed ts p ≡ false → place_of_pair ts p ≡ length ts
place_past [] p e = refl
place_past (t ∷ ts) p e =
    elim (same_pair t p) as (λ b. cond b true (is_listed ts p) ≡ false → cond b 0 (place_of_pair ts p + 1) ≡ length (t ∷ ts)) [
      | true ↦ λ no. absurd (let bad : true ≡ false = no in cc)
      | false ↦ λ found. let h = place_past ts p found in omega arith
    ] e

-- what is listed stays where it is
pub place_stays : (ts more : List Pair) (p : Pair) → is_listed ts p ≡ true → place_of_pair (ts ++ more) p ≡ place_of_pair ts p
place_stays [] more p e = absurd (let no : false ≡ true = e in cc)
place_stays (t ∷ ts) more p e =
    elim (same_pair t p) as (λ b. cond b true (is_listed ts p) ≡ true → cond b 0 (place_of_pair (ts ++ more) p + 1) ≡ cond b 0 (place_of_pair ts p + 1)) [
      | true ↦ λ _. refl
      | false ↦ λ found. ap (λ n. n + 1) (place_stays ts more p found)
    ] e

pub listed_stays : (ts more : List Pair) (p : Pair) → is_listed ts p ≡ true → is_listed (ts ++ more) p ≡ true
listed_stays [] more p e = absurd (let no : false ≡ true = e in cc)
listed_stays (t ∷ ts) more p e =
    elim (same_pair t p) as (λ b. cond b true (is_listed ts p) ≡ true → cond b true (is_listed (ts ++ more) p) ≡ true) [
      | true ↦ λ _. refl
      | false ↦ λ found. listed_stays ts more p found
    ] e

pub listed_last : (ts : List Pair) (p : Pair) → is_listed (ts ++ p ∷ []) p ≡ true
listed_last [] p = ap (λ b. cond b true false) (same_pair-refl p)
listed_last (t ∷ ts) p =
    elim (same_pair t p) as (λ b. cond b true (is_listed (ts ++ p ∷ []) p) ≡ true) [ true ↦ refl | false ↦ listed_last ts p ]

pub place_last : (ts : List Pair) (p : Pair) → is_listed ts p ≡ false → place_of_pair (ts ++ p ∷ []) p ≡ length ts
place_last [] p e = ap (λ b. cond b 0 1) (same_pair-refl p)
place_last (t ∷ ts) p e =
    elim (same_pair t p) as (λ b. cond b true (is_listed ts p) ≡ false → cond b 0 (place_of_pair (ts ++ p ∷ []) p + 1) ≡ length (t ∷ ts)) [
      | true ↦ λ no. absurd (let bad : true ≡ false = no in cc)
      | false ↦ λ found. let h = place_last ts p found in omega arith
    ] e

-- one more pair: what was listed stays where it was, and the pair stands at the place that it was looked up at
pub with_pair-stays : (ts : List Pair) (q p : Pair) → is_listed ts p ≡ true → place_of_pair (with_pair ts q) p ≡ place_of_pair ts p
with_pair-stays ts q p e =
    elim (is_listed ts q) as (λ b. place_of_pair (cond b ts (ts ++ q ∷ [])) p ≡ place_of_pair ts p) [ true ↦ refl | false ↦ place_stays ts (q ∷ []) p e ]

pub with_pair-listed : (ts : List Pair) (q p : Pair) → is_listed ts p ≡ true → is_listed (with_pair ts q) p ≡ true
with_pair-listed ts q p e =
    elim (is_listed ts q) as (λ b. is_listed (cond b ts (ts ++ q ∷ [])) p ≡ true) [ true ↦ e | false ↦ listed_stays ts (q ∷ []) p e ]

-- the two cases, with what was asked: whether the pair is listed
pub cases_listed : (ts : List Pair) (p : Pair) (P : Bool → Type 0) → (is_listed ts p ≡ true → P true) → (is_listed ts p ≡ false → P false) → P (is_listed ts p)
cases_listed ts p P yes_ no_ =
    elim (is_listed ts p) as (λ b. (b ≡ true → P true) → (b ≡ false → P false) → P b) [ true ↦ λ f g. f refl | false ↦ λ f g. g refl ] yes_ no_

pub with_pair-own : (ts : List Pair) (p : Pair) → (place_of_pair (with_pair ts p) p ≡ place_of_pair ts p) × (is_listed (with_pair ts p) p ≡ true)
with_pair-own ts p =
    cases_listed ts p (λ b. (place_of_pair (cond b ts (ts ++ p ∷ [])) p ≡ place_of_pair ts p) × (is_listed (cond b ts (ts ++ p ∷ [])) p ≡ true))
    (λ found. (refl, found)) (λ none. (place_last ts p none ∙ sym (place_past ts p none), listed_last ts p))

-- a place that is the end, or before it, tells whether the pair was listed
pub with_pair-new : (ts : List Pair) (p : Pair) → place_of_pair ts p ≡ length ts → with_pair ts p ≡ ts ++ p ∷ []
with_pair-new ts p end =
    cases_listed ts p (λ b. cond b ts (ts ++ p ∷ []) ≡ ts ++ p ∷ [])
    (λ found. absurd (let h = place_within ts p found in omega arith)) (λ none. refl)

pub with_pair-old : (ts : List Pair) (p : Pair) → place_of_pair ts p ≢ length ts → with_pair ts p ≡ ts
with_pair-old ts p before =
    cases_listed ts p (λ b. cond b ts (ts ++ p ∷ []) ≡ ts)
    (λ found. refl) (λ none. absurd (before (place_past ts p none)))

-- the places of pairs that are listed stay
pub places_stay : (ts : List Pair) (q : Pair) (ps : List Pair) → All (λ p. is_listed ts p ≡ true) ps → map (place_of_pair (with_pair ts q)) ps ≡ map (place_of_pair ts) ps
places_stay ts q [] listed = refl
places_stay ts q (p ∷ ps) listed =
    let first = with_pair-stays ts q p (All-head (λ p. is_listed ts p ≡ true) p ps listed) in
    let rest = places_stay ts q ps (All-tail (λ p. is_listed ts p ≡ true) p ps listed) in
    cc
