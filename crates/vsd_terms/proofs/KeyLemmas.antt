-- What a set of byte strings answers, said of the names that it holds.
use Rattle.std.proofs.Common.{◌≡◌, ℕ, ◌<◌, ◌≤◌, Bool, true, false, List, [], ◌∷◌, ◌++◌, ◌||◌, if◌then◌else◌, length, get_or, sym, ap, ◌∙◌, subst, refl, inl, inr, Some, Contains, arith, nat_eq}
use Rattle.std.specs.Global.{Vec}
use Rattle.std.specs.Bool.{Decides}
use Rattle.std.specs.Cmp.{unsigned_Decides}
use Rattle.std.specs.Cmp.Lexicographic.{pointwise}
use Rattle.std.specs.List.{IsDistinct, list_any, position, slice_get}
use Rattle.std.specs.Option.{option_map}
use Rattle.std.proofs.lemmas.Bool.{cases_order, false≢true}
use Rattle.std.proofs.lemmas.List.{length-map, length_push, map-append}
use Rattle.std.proofs.Math.Seq.{get_or-append_seam}
use Rattle.indexmap.specs.IndexSet.{insert_key}
use Rattle.std.proofs.lemmas.List.Quantifiers.{position-Some}
use Rattle.std.proofs.lemmas.Map.Keys.{apart_from_distinct}
use Rattle.std.proofs.lemmas.Map.Made.{is_member-Decides}
use Rattle.std.proofs.lemmas.Option.{slice_get-map, slice_get-get_or, slice_get_within}
use Rattle.std.proofs.lemmas.Slice.Eq.{slice_eq-Decides}
use Rattle.vsd_terms.specs.Keys.{names_in}
use Rattle.vsd_terms.specs.Names.{AreNames}

pub same_bytes-Decides : (a b : List ℕ) → Decides (pointwise nat_eq a b) (a ≡ b)
same_bytes-Decides a b = slice_eq-Decides unsigned_Decides a b (pointwise nat_eq a b) refl

-- the test that finds a name among the keys
abbrev pub is_key_of : List ℕ → Vec ℕ → Bool
is_key_of name key = pointwise nat_eq name key.items

list_any-names_in : (name : List ℕ) (keys : List (Vec ℕ)) → list_any (pointwise nat_eq name) (names_in keys) ≡ list_any (is_key_of name) keys
list_any-names_in name [] = refl
list_any-names_in name (key ∷ keys) = ap (λ rest. is_key_of name key || rest) (list_any-names_in name keys)

pub has_name-Decides : (keys : List (Vec ℕ)) (name : List ℕ) → Decides (list_any (is_key_of name) keys) (Contains (names_in keys) name)
has_name-Decides keys name =
    let P : Bool → Type 0 = λ r. Decides r (Contains (names_in keys) name) in
    subst P (list_any-names_in name keys) (is_member-Decides same_bytes-Decides (names_in keys) name)

-- the name at the place at which a key passes the test
pub name_at_position : (keys : List (Vec ℕ)) (name : List ℕ) (i : ℕ) → position (is_key_of name) keys ≡ Some i → slice_get (names_in keys) i ≡ Some name
name_at_position [] name i found = absurd cc
name_at_position (key ∷ keys) name i found =
    let at = position-Some (is_key_of name) (key ∷ keys) i key found in
    let same = (same_bytes-Decides name (get_or (key ∷ keys) i key).items).0 at.1 in
    slice_get-map (λ (v : Vec ℕ). v.items) (key ∷ keys) i ∙ ap (option_map (λ (v : Vec ℕ). v.items)) (slice_get-get_or (key ∷ keys) i key at.0) ∙ ap Some (sym same)

-- the key at the place of a name
key_at : (key : Vec ℕ) (keys : List (Vec ℕ)) (i : ℕ) (name : List ℕ) → slice_get (names_in (key ∷ keys)) i ≡ Some name → (i < length (key ∷ keys)) × ((get_or (key ∷ keys) i key).items ≡ name)
key_at key keys i name here =
    let within : i < length (key ∷ keys) = subst (λ n. i < n) (length-map (key ∷ keys) (λ (v : Vec ℕ). v.items)) (slice_get_within (names_in (key ∷ keys)) i name here) in
    let mapped = slice_get-map (λ (v : Vec ℕ). v.items) (key ∷ keys) i in
    let read = ap (option_map (λ (v : Vec ℕ). v.items)) (slice_get-get_or (key ∷ keys) i key within) in
    (within, cc)

names_apart : (key : Vec ℕ) (keys : List (Vec ℕ)) (i j : ℕ) (name : List ℕ) → IsDistinct (λ x y. is_key_of x.items y) (key ∷ keys) → slice_get (names_in (key ∷ keys)) i ≡ Some name → slice_get (names_in (key ∷ keys)) j ≡ Some name → i < j → ⊥
names_apart key keys i j name distinct at_i at_j below =
    let left = key_at key keys i name at_i in
    let right = key_at key keys j name at_j in
    let differ = apart_from_distinct (λ x y. is_key_of x.items y) (key ∷ keys) i j key distinct below right.0 in
    let agree = (same_bytes-Decides (get_or (key ∷ keys) i key).items (get_or (key ∷ keys) j key).items).1 (left.1 ∙ sym right.1) in
    false≢true (sym differ ∙ agree)

distinct_names : (keys : List (Vec ℕ)) → IsDistinct (λ x y. is_key_of x.items y) keys → (i j : ℕ) (name : List ℕ) → slice_get (names_in keys) i ≡ Some name → slice_get (names_in keys) j ≡ Some name → i ≡ j
distinct_names [] distinct i j name at_i at_j = absurd cc
distinct_names (key ∷ keys) distinct i j name at_i at_j =
    elim (cases_order i j) [
      | inl same ↦ same
      | inr other ↦ elim other [
        | inl below ↦ absurd (names_apart key keys i j name distinct at_i at_j below)
        | inr above ↦ absurd (names_apart key keys j i name distinct at_j at_i above)
      ]
    ]

pub AreNames-names_in : (keys : List (Vec ℕ)) → IsDistinct (λ x y. is_key_of x.items y) keys → length keys ≤ 2048 → AreNames (names_in keys)
AreNames-names_in keys distinct few = record {
  few = rw length-map few;
  distinct = distinct_names keys distinct;
}

-- ---- a key that is put in

new_key : (keys : List (Vec ℕ)) (key : Vec ℕ) → ¬ Contains (names_in keys) key.items → insert_key (λ x y. is_key_of x.items y) keys key ≡ keys ++ key ∷ []
new_key keys key absent = by (list_any (is_key_of key.items) keys) refl
  where
    by : (found : Bool) → list_any (is_key_of key.items) keys ≡ found → insert_key (λ x y. is_key_of x.items y) keys key ≡ keys ++ key ∷ []
    by true there = absurd (absent ((has_name-Decides keys key.items).0 there))
    by false missing = ap (λ found. if found then keys else keys ++ key ∷ []) missing

-- the names, once a key with a new name is put in
pub names_in-insert_key : (keys new : List (Vec ℕ)) (key : Vec ℕ) (names : List (List ℕ)) (name : List ℕ) → names_in keys ≡ names → key.items ≡ name → ¬ Contains names name → new ≡ insert_key (λ x y. is_key_of x.items y) keys key → names_in new ≡ names ++ name ∷ []
names_in-insert_key keys new key names name are is absent put =
    let P : List (List ℕ) → Type 0 = λ all. ¬ Contains all key.items in
    let Q : List ℕ → Type 0 = λ one. ¬ Contains names one in
    let added = put ∙ new_key keys key (subst P (sym are) (subst Q (sym is) absent)) in
    ap names_in added ∙ map-append (λ (v : Vec ℕ). v.items) keys (key ∷ []) ∙ ap (λ all. all ++ key.items ∷ []) are ∙ ap (λ one. names ++ one ∷ []) is

-- the last name is at the place that was the count
pub slice_get-push : (names : List (List ℕ)) (name : List ℕ) → slice_get (names ++ name ∷ []) (length names) ≡ Some name
slice_get-push names name =
    slice_get-get_or (names ++ name ∷ []) (length names) name (omega (arith, length_push names name)) ∙ ap Some (get_or-append_seam names name [] name)
