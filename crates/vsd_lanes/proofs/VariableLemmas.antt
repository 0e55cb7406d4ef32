-- The place of a name among the keys of a set.
use Rattle.std.proofs.Common.{◌≡◌, ℕ, suc, Bool, true, false, cond, ltb, List, [], ◌∷◌, ◌++◌, length, Some, None, refl, ap, sym, ◌∙◌, ◌||◌, ◌+◌, not, arith}
use Rattle.std.proofs.lemmas.Bool.{lt-ltb}
use Rattle.std.proofs.Math.Dec.{leb-suc-suc}
use Rattle.std.specs.Global.{Vec}
use Rattle.std.specs.Str.{bytes_eq}
use Rattle.std.specs.List.{list_any, position, position_or_len}
use Rattle.std.proofs.lemmas.List.{length-map, map-append}
use Rattle.indexmap.specs.IndexSet.{insert_key}
use Rattle.vsd_terms.specs.Keys.{names_in}
use Rattle.vsd_terms.proofs.KeyLemmas.{is_key_of}

same_place : (name : List ℕ) (keys : List (Vec ℕ)) → position_or_len (is_key_of name) keys ≡ position_or_len (bytes_eq name) (names_in keys)
same_place name [] = refl
same_place name (k ∷ ks) = ap (λ n. cond (not (is_key_of name k)) (1 + n) 0) (same_place name ks)

pub position_names : (name : List ℕ) (keys : List (Vec ℕ)) → position (is_key_of name) keys ≡ position (bytes_eq name) (names_in keys)
position_names name keys =
    ap (λ n. cond (ltb n (length keys)) (Some n) None) (same_place name keys)
    ∙ ap (λ m. cond (ltb (position_or_len (bytes_eq name) (names_in keys)) m) (Some (position_or_len (bytes_eq name) (names_in keys))) None) (sym (length-map keys (λ (v : Vec ℕ). v.items)))

any_place : (p : Vec ℕ → Bool) (keys : List (Vec ℕ)) → list_any p keys ≡ ltb (position_or_len p keys) (length keys)
any_place p [] = refl
any_place p (k ∷ ks) = go (p k) (any_place p ks)
  where
    go : (b : Bool) → list_any p ks ≡ ltb (position_or_len p ks) (length ks) → b || list_any p ks ≡ ltb (cond (not b) (1 + position_or_len p ks) 0) (suc (length ks))
    go true e = sym (lt-ltb 0 (suc (length ks)) (omega arith))
    go false e =
        let n : suc (position_or_len p ks) ≡ 1 + position_or_len p ks = omega arith in
        e ∙ sym (leb-suc-suc (suc (position_or_len p ks)) (length ks)) ∙ ap (λ m. ltb m (suc (length ks))) n

pub put_last : (name : List ℕ) (keys new : List (Vec ℕ)) (key : Vec ℕ) (names : List (List ℕ)) → names_in keys ≡ names → position (bytes_eq name) names ≡ None → key.items ≡ name
    → new ≡ insert_key (λ x y. is_key_of x.items y) keys key → names_in new ≡ names ++ name ∷ []
put_last name keys new key names are absent is put =
    let here : position (is_key_of key.items) keys ≡ None = ap (λ n. position (is_key_of n) keys) is ∙ position_names name keys ∙ ap (position (bytes_eq name)) are ∙ absent in
    let none = any_place (is_key_of key.items) keys ∙ go (ltb (position_or_len (is_key_of key.items) keys) (length keys)) here in
    ap names_in (put ∙ ap (λ b. cond b keys (keys ++ key ∷ [])) none) ∙ map-append (λ (v : Vec ℕ). v.items) keys (key ∷ []) ∙ ap (λ all. all ++ key.items ∷ []) are ∙ ap (λ one. names ++ one ∷ []) is
  where
    go : (b : Bool) → cond b (Some (position_or_len (is_key_of key.items) keys)) None ≡ None → b ≡ false
    go true e = absurd cc
    go false e = refl
