-- The number of a name in a list of distinct names.
use Rattle.std.proofs.Common.{◌≡◌, ℕ, zero, suc, ◌<◌, ◌≤◌, true, false, Bool, cond, ltb, List, [], ◌∷◌, ◌++◌, length, get_or, Contains, Some, None, Ok, Err, ap, sym, subst, ◌∙◌, refl, arith}
use Rattle.std.specs.List.{slice_get, position}
use Rattle.std.specs.Str.{bytes_eq}
use Rattle.std.proofs.lemmas.Bool.{lt-ltb, le-ltb}
use Rattle.std.proofs.lemmas.List.Sums.{position_or_len_is}
use Rattle.std.proofs.lemmas.Option.{slice_get_within, slice_get-get_or, get_or_from_slice_get}
use Rattle.std.proofs.lemmas.Slice.Eq.{bytes_eq-Decides}
use Rattle.std.proofs.lemmas.Option.{same_Some}
use Rattle.vsd_terms.specs.Names.{AreNames, AddsName}
use Rattle.vsd_grammar.specs.declared.cause.Cause.TheVariants.{TooMany}
use Rattle.vsd_grammar.specs.declared.cause.Counted.TheVariants as limit
use Rattle.vsd_grammar.specs.Input.{Input}
use Rattle.vsd_grammar.specs.Grammar.{counted, syntax_error, run}
use Rattle.vsd_grammar.specs.Productions.{number, number_by}

is_false : (b : Bool) → (b ≡ true → ⊥) → b ≡ false
is_false true h = absurd (h refl)
is_false false h = refl

pub position_found : (names : List (List ℕ)) (name : List ℕ) (n : ℕ) → AreNames names → slice_get names n ≡ Some name → position (bytes_eq name) names ≡ Some n
position_found names name n good found =
    let inside = slice_get_within names n name found in
    let here : bytes_eq name (get_or names n []) ≡ true = (bytes_eq-Decides name (get_or names n [])).1 (sym (get_or_from_slice_get names n name [] found)) in
    let before : (k : ℕ) → k < n → bytes_eq name (get_or names k []) ≡ false = λ k h. is_false (bytes_eq name (get_or names k [])) (λ e.
    let same = (bytes_eq-Decides name (get_or names k [])).0 e in
    let at_k = slice_get-get_or names k [] (omega arith) ∙ ap Some (sym same) in
    let twice = good.distinct k n name at_k found in
    omega arith) in
    let first = position_or_len_is (bytes_eq name) names n [] (omega arith) before (λ h. here) in
    ap (λ p. cond (ltb p (length names)) (Some p) None) first ∙ ap (λ b. cond b (Some n) None) (lt-ltb n (length names) inside)

pub position_absent : (names : List (List ℕ)) (name : List ℕ) → (Contains names name → ⊥) → position (bytes_eq name) names ≡ None
position_absent names name absent =
    let before : (k : ℕ) → k < length names → bytes_eq name (get_or names k []) ≡ false = λ k h. is_false (bytes_eq name (get_or names k [])) (λ e.
    let same = (bytes_eq-Decides name (get_or names k [])).0 e in
    let at_k = slice_get-get_or names k [] h ∙ ap Some (sym same) in
    absent (k, h, get_or_from_slice_get names k name name at_k)) in
    let first = position_or_len_is (bytes_eq name) names (length names) [] (omega arith) before (λ h. absurd (omega arith)) in
    ap (λ p. cond (ltb p (length names)) (Some p) None) first ∙ ap (λ b. cond b (Some (length names)) None) (le-ltb (length names) (length names) (omega arith))

-- a name that comes last is at no other place
appended_place : (names : List (List ℕ)) (name : List ℕ) (n : ℕ) → (Contains names name → ⊥) → slice_get (names ++ name ∷ []) n ≡ Some name → n ≡ length names
appended_place [] name zero absent found = refl
appended_place [] name (suc n) absent found = absurd (cc)
appended_place (m ∷ ms) name zero absent found = absurd (absent (0, omega arith, same_Some m name found))
appended_place (m ∷ ms) name (suc n) absent found =
    ap suc (appended_place ms name n (λ w. absent (suc w.0, omega (arith, w.1), w.2)) found)

known_number : (i : Input) (name : List ℕ) (n : ℕ) → position (bytes_eq name) i.state.names ≡ Some n → run ℕ (number name) i ≡ Ok (n, i)
unfolding number
known_number i name n e = ap (λ p. counted i (number_by name i.state p)) e

pub number_known : (i : Input) (name : List ℕ) (n : ℕ) → AreNames i.state.names → slice_get i.state.names n ≡ Some name → run ℕ (number name) i ≡ Ok (n, i)
number_known i name n good found = known_number i name n (position_found i.state.names name n good found)

-- the place with these names
abbrev pub with_names : Input → List (List ℕ) → Input
with_names i names = record i { state = record { nodes = i.state.nodes; names = names } }

new_number : (i : Input) (name : List ℕ) → position (bytes_eq name) i.state.names ≡ None
    → run ℕ (number name) i ≡ counted i (cond (ltb (length i.state.names) 2048) (Ok (length i.state.names, record i.state { names = i.state.names ++ name ∷ [] })) (Err (TooMany limit.Names)))
unfolding number
new_number i name e = ap (λ p. counted i (number_by name i.state p)) e

number_added : (i : Input) (name : List ℕ) → (Contains i.state.names name → ⊥) → length i.state.names < 2048
    → run ℕ (number name) i ≡ Ok (length i.state.names, with_names i (i.state.names ++ name ∷ []))
number_added i name absent few = new_number i name (position_absent i.state.names name absent)
    ∙ ap (λ b. counted i (cond b (Ok (length i.state.names, record i.state { names = i.state.names ++ name ∷ [] })) (Err (TooMany limit.Names)))) (lt-ltb (length i.state.names) 2048 few)

pub number_new : (i : Input) (name : List ℕ) (n : ℕ) (new : List (List ℕ)) → AreNames i.state.names → (Contains i.state.names name → ⊥) → (length i.state.names ≡ 2048 → ⊥)
    → AddsName i.state.names new name → slice_get new n ≡ Some name → run ℕ (number name) i ≡ Ok (n, with_names i new)
number_new i name n new good absent room adds found =
    let e = adds.absent absent in
    let place = appended_place i.state.names name n absent (subst (λ xs. slice_get xs n ≡ Some name) e found) in
    let few : length i.state.names < 2048 = below (length i.state.names) good.few room in
    number_added i name absent few ∙ ap (λ k. Ok (k, with_names i (i.state.names ++ name ∷ []))) (sym place) ∙ ap (λ xs. Ok (n, with_names i xs)) (sym e)
  where
    below : (k : ℕ) → k ≤ 2048 → (k ≡ 2048 → ⊥) → k < 2048
    below k h r = omega arith

pub number_full : (i : Input) (name : List ℕ) → (Contains i.state.names name → ⊥) → length i.state.names ≡ 2048
    → run ℕ (number name) i ≡ Err (syntax_error i (TooMany limit.Names))
number_full i name absent full = new_number i name (position_absent i.state.names name absent)
    ∙ ap (λ b. counted i (cond b (Ok (length i.state.names, record i.state { names = i.state.names ++ name ∷ [] })) (Err (TooMany limit.Names)))) (le-ltb (length i.state.names) 2048 (omega arith))
