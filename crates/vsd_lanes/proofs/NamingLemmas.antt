-- Names of variables are apart, and none is a host's.
use Rattle.std.proofs.Common.{◌≡◌, ℕ, zero, suc, ◌+◌, ◌<◌, ◌≤◌, Bool, true, false, cond, not, ltb, List, [], ◌∷◌, ◌++◌, length, map, position, All, Contains, Option, Some, None, refl, ap, sym, subst, ◌∙◌, ◌⊎◌, inl, inr, arith}
use Rattle.std.specs.List.{slice_get, position_or_len}
use Rattle.std.specs.Str.{bytes_eq}
use Rattle.std.proofs.lemmas.Bool.{ltb-false, lt-ltb}
use Rattle.std.proofs.lemmas.List.{length-map}
use Rattle.std.proofs.lemmas.List.Elements.{All-nil, All-cons, All-push, All-contains}
use Rattle.std.proofs.lemmas.Option.{slice_get_within, get_or_from_slice_get}
use Rattle.std.proofs.lemmas.Slice.Eq.{bytes_eq-Decides}
use Rattle.vsd_ast.specs.declared.scripts.Host.{Host}
use Rattle.vsd_lanes.specs.Naming.{AreApart, IsNoHost, host_names}
use Rattle.vsd_lanes.specs.Setting.{place_from, numbered, host_number}
use Rattle.vsd_lanes.specs.Variables.{added_by, added}

-- ---- a name that is put last

at_push : (xs : List (List ℕ)) (x : List ℕ) (p : ℕ) (t : List ℕ) → slice_get (xs ++ x ∷ []) p ≡ Some t → ((p < length xs) × (slice_get xs p ≡ Some t)) ⊎ ((p ≡ length xs) × (x ≡ t))
at_push [] x zero t here = inr (refl, cc)
at_push [] x (suc p) t here = absurd cc
at_push (y ∷ xs) x zero t here = inl (omega arith, here)
at_push (y ∷ xs) x (suc p) t here =
    elim (at_push xs x p t here) [
      | inl w ↦ inl (omega (arith, w.0), w.1)
      | inr w ↦ inr (ap suc w.0, w.1)
    ]

contained : (xs : List (List ℕ)) (p : ℕ) (t : List ℕ) → slice_get xs p ≡ Some t → Contains xs t
contained xs p t here =
    let within = slice_get_within xs p t here in
    (p, within, get_or_from_slice_get xs p t t here)

pub apart_push : (xs : List (List ℕ)) (x : List ℕ) → ¬ Contains xs x → AreApart xs → AreApart (xs ++ x ∷ [])
apart_push xs x absent apart i j t at_i at_j =
    elim (at_push xs x i t at_i) [
      | inl a ↦ elim (at_push xs x j t at_j) [
        | inl b ↦ apart i j t a.1 b.1
        | inr b ↦ absurd (absent (subst (Contains xs) (sym b.1) (contained xs i t a.1)))
      ]
      | inr a ↦ elim (at_push xs x j t at_j) [
        | inl b ↦ absurd (absent (subst (Contains xs) (sym a.1) (contained xs j t b.1)))
        | inr b ↦ a.0 ∙ sym b.0
      ]
    ]

pub none_apart : AreApart []
none_apart i j name at_i at_j = absurd cc

-- ---- a name that has no number

all_differ : (name : List ℕ) (xs : List (List ℕ)) → length xs ≤ position_or_len (bytes_eq name) xs → All (λ x. ¬ (x ≡ name)) xs
all_differ name [] h = All-nil (λ x. ¬ (x ≡ name))
all_differ name (x ∷ xs) h = go (all_differ name xs) (bytes_eq name x) refl h
  where
    go : (length xs ≤ position_or_len (bytes_eq name) xs → All (λ y. ¬ (y ≡ name)) xs) → (b : Bool) → bytes_eq name x ≡ b
        → suc (length xs) ≤ cond (not b) (1 + position_or_len (bytes_eq name) xs) 0 → All (λ y. ¬ (y ≡ name)) (x ∷ xs)
    go rest true f g = absurd (omega (arith, g))
    go rest false f g = All-cons (λ y. ¬ (y ≡ name)) x xs (λ same. let yes = (bytes_eq-Decides name x).1 (sym same) in absurd cc) (rest (omega (arith, g)))

pub no_position : (name : List ℕ) (xs : List (List ℕ)) → position (bytes_eq name) xs ≡ None → ¬ Contains xs name
no_position name xs e h =
    let past = ltb-false (position_or_len (bytes_eq name) xs) (length xs) (go (ltb (position_or_len (bytes_eq name) xs) (length xs)) e) in
    All-contains (λ x. ¬ (x ≡ name)) xs name (all_differ name xs (omega (arith, past))) h refl
  where
    go : (b : Bool) → cond b (Some (position_or_len (bytes_eq name) xs)) None ≡ None → b ≡ false
    go true f = absurd cc
    go false f = refl

-- ---- a name that is no host's

none_placed : (first : ℕ) (xs : List (List ℕ)) (name : List ℕ) → place_from first xs name ≡ None → All (λ x. ¬ (x ≡ name)) xs
unfolding place_from
none_placed first [] name e = All-nil (λ x. ¬ (x ≡ name))
none_placed first (x ∷ xs) name e = go (none_placed (first + 1) xs name) (bytes_eq x name) refl e
  where
    go : (place_from (first + 1) xs name ≡ None → All (λ y. ¬ (y ≡ name)) xs) → (b : Bool) → bytes_eq x name ≡ b
        → cond b (Some first) (place_from (first + 1) xs name) ≡ None → All (λ y. ¬ (y ≡ name)) (x ∷ xs)
    go rest true f g = absurd cc
    go rest false f g = All-cons (λ y. ¬ (y ≡ name)) x xs (λ same. let yes = (bytes_eq-Decides x name).1 same in absurd cc) (rest g)

pub not_placed : (xs : List (List ℕ)) (name : List ℕ) → place_from 0 xs name ≡ None → ¬ Contains xs name
not_placed xs name e h = All-contains (λ x. ¬ (x ≡ name)) xs name (none_placed 0 xs name e) h refl

pub place_within : (first : ℕ) (xs : List (List ℕ)) (name : List ℕ) (n : ℕ) → place_from first xs name ≡ Some n → n < first + length xs
unfolding place_from
place_within first [] name n e = absurd cc
place_within first (x ∷ xs) name n e = go (place_within (first + 1) xs name n) (bytes_eq x name) e
  where
    go : (place_from (first + 1) xs name ≡ Some n → n < first + 1 + length xs) → (b : Bool) → cond b (Some first) (place_from (first + 1) xs name) ≡ Some n → n < first + suc (length xs)
    go rest true h = let same : first ≡ n = cc in omega (arith, same)
    go rest false h = let k = rest h in omega (arith, k)

pub no_host_named : (hosts : List Host) (name : List ℕ) → length hosts ≤ 65536 → host_number hosts name ≡ None → IsNoHost hosts name
no_host_named hosts name few e = not_placed (host_names hosts) name (go (place_from 0 (host_names hosts) name) refl e)
  where
    go : (o : Option ℕ) → place_from 0 (host_names hosts) name ≡ o → numbered o ≡ None → o ≡ None
    go None f g = refl
    go (Some n) f g =
        let within = place_within 0 (host_names hosts) name n f in
        let long = length-map hosts (λ (h : Host). h.name) in
        let small : ltb n 65536 ≡ true = lt-ltb n 65536 (omega (arith, within, long, few)) in
        let some : numbered (Some n) ≡ Some n = ap (λ b. cond b (Some n) None) small in
        absurd cc

-- ---- variables so far

-- their names are apart, and no host's
pub record AreNamed (hosts : List Host) (names : List (List ℕ)) : Type 0 where
  pub apart : AreApart names
  pub no_hosts : All (λ name. host_number hosts name ≡ None) names

pub none_named : (hosts : List Host) → AreNamed hosts []
none_named hosts = record { apart = none_apart; no_hosts = All-nil (λ name. host_number hosts name ≡ None) }

pub added_named : (hosts : List Host) (names : List (List ℕ)) (name : List ℕ) → host_number hosts name ≡ None → AreNamed hosts names → AreNamed hosts (added names name)
added_named hosts names name none h = go (position (bytes_eq name) names) refl
  where
    go : (o : Option ℕ) → position (bytes_eq name) names ≡ o → AreNamed hosts (added_by o names name)
    go (Some n) e = h
    go None e = record {
      apart = apart_push names name (no_position name names e) h.apart;
      no_hosts = All-push (λ other. host_number hosts other ≡ None) names name h.no_hosts none;
    }
