-- No token beyond the one that decided matters.
use Rattle.std.proofs.Common.{◌≡◌, ℕ, zero, suc, ◌+◌, ◌≤◌, ◌<◌, Bool, true, false, cond, ltb, List, ◌∷◌, length, get_or, Option, Some, None, Result, Ok, Err, refl, ap, sym, subst, ◌∙◌, ◌⊎◌, arith}
use Rattle.std.specs.List.{slice_get}
use Rattle.std.proofs.lemmas.Bool.{ltb-true}
use Rattle.std.proofs.lemmas.Option.{slice_get_within, slice_get_cases}
use Rattle.vsd_grammar.specs.declared.token_class.TokenClass.{TokenClass}
use Rattle.vsd_grammar.specs.declared.cause.Cause.{Cause}
use Rattle.vsd_grammar.specs.declared.cause.Cause.TheVariants.{Unexpected}
use Rattle.vsd_grammar.specs.Input.{Seen, Input, State, class_of, bytes_of, line_of, class_at, bytes_at, line_at, next, left, is_end, is_comma, lookahead_of}
use Rattle.vsd_grammar.specs.Grammar.{G, ret, refuse, refuse_at, lookahead, pass, count, bind, separated, until, Outcome, and_then, counted, tested, tried, surplus, after_item, after_turn, syntax_error, items, turns, run}
use Rattle.vsd_grammar.specs.Laws.{SameUpTo, over}
use Rattle.vsd_grammar.proofs.Bounds.{reach, Within, within, within_items, within_turns, within_tested, within_after_item, within_after_turn}

-- the same outcome at the places of another list
abbrev pub outcome_over : {A : Type 0} → List Seen → Outcome A → Outcome A
outcome_over ys (Ok r) = Ok (r.0, over ys r.1)
outcome_over ys (Err e) = Err e

-- the second outcome is the first one, if the other list is the same as far as the first one reaches
abbrev pub Keeps : {A : Type 0} → List Seen → Input → Outcome A → Outcome A → Type 0
Keeps ys i o p = SameUpTo (reach o) i.all ys → p ≡ outcome_over ys o

reach_from : {A : Type 0} (i : Input) (o : Outcome A) → Within i o → i.at ≤ reach o
reach_from i (Ok r) w = w.0
reach_from i (Err e) w = w.0

keeps_then : {A B : Type 0} (ys : List Seen) (i : Input) (o p : Outcome A) (f g : A → Input → Outcome B) → Within i o → Keeps ys i o p
    → ((x : A) (k : Input) → Within k (f x k))
    → ((x : A) (k : Input) → o ≡ Ok (x, k) → SameUpTo k.at i.all ys → Keeps ys k (f x k) (g x (over ys k)))
    → Keeps ys i (and_then o f) (and_then p g)
keeps_then ys i (Ok r) p f g w h inside more same =
    let front : r.1.at ≤ reach (f r.0 r.1) = reach_from r.1 (f r.0 r.1) (inside r.0 r.1) in
    let near : SameUpTo r.1.at i.all ys = λ k l. same k (omega arith) in
    let after : SameUpTo (reach (f r.0 r.1)) r.1.all ys = λ k l. ap (λ xs. slice_get xs k) w.2 ∙ same k l in
    ap (λ t. and_then t g) (h near) ∙ more r.0 r.1 refl near after
keeps_then ys i (Err e) p f g w h inside more same = ap (λ t. and_then t g) (h same)

class_over : (ys : List Seen) (i : Input) (n : ℕ) → i.at ≤ n → SameUpTo n i.all ys → class_at (over ys i) ≡ class_at i
unfolding class_at
class_over ys i n h same = ap class_of (sym (same i.at h))

lookahead_over : (ys : List Seen) (i : Input) → SameUpTo i.at i.all ys → lookahead_of (over ys i) ≡ lookahead_of i
unfolding class_at bytes_at line_at
lookahead_over ys i same = ap (λ t. record { index = i.at; class = class_of t; bytes = bytes_of t; line = line_of t }) (sym (same i.at (omega arith)))

tried_over : (ys : List Seen) (i : Input) (n : ℕ) (first : TokenClass → List ℕ → Option Cause) → i.at ≤ n → SameUpTo n i.all ys → tried first (over ys i) ≡ tried first i
unfolding class_at bytes_at
tried_over ys i n first h same = ap (λ t. first (class_of t) (bytes_of t)) (sym (same i.at h))

-- what depends on the class of the token at hand may take it from the first list
at_hand : {A : Type 0} (ys : List Seen) (i : Input) (o : Outcome A) (p : TokenClass → Outcome A) → Within i o → Keeps ys i o (p (class_at i)) → Keeps ys i o (p (class_at (over ys i)))
at_hand ys i o p w h same = ap p (class_over ys i (reach o) (reach_from i o w) same) ∙ h same

-- and so may what depends on the test of the token at hand
at_test : {A : Type 0} (ys : List Seen) (i : Input) (o : Outcome A) (first : TokenClass → List ℕ → Option Cause) (p : Option Cause → Outcome A) → Within i o
    → Keeps ys i o (p (tried first i)) → Keeps ys i o (p (tried first (over ys i)))
at_test ys i o first p w h same = ap p (tried_over ys i (reach o) first (reach_from i o w) same) ∙ h same

within_ok : (A : Type 0) (x : A) (i : Input) → Within {A = A} i (Ok (x, i))
within_ok A x i = (omega arith, omega arith, refl)

keeps_cond : {A : Type 0} (ys : List Seen) (i : Input) (b : Bool) (o q p r : Outcome A) → Keeps ys i o p → Keeps ys i q r → Keeps ys i (cond b o q) (cond b p r)
keeps_cond ys i true o q p r h k = h
keeps_cond ys i false o q p r h k = k

keeps_tested : {A : Type 0} (ys : List Seen) (i : Input) (c : Option Cause) (o p : Outcome A) → Keeps ys i o p → Keeps ys i (tested c i o) (tested c (over ys i) p)
keeps_tested ys i None o p h = h
keeps_tested ys i (Some cause) o p h = λ same. refl

keeps_after_item : {A : Type 0} (ys : List Seen) (x : A) (b : Bool) (k : Input) (o p : Outcome (List A)) → Within (next k) o → Keeps ys (next k) o p
    → Keeps ys k (after_item x b k o) (after_item x b (over ys k) p)
keeps_after_item {A} ys x true k o p w h = keeps_then ys (next k) o p (λ xs j. Ok (x ∷ xs, j)) (λ xs j. Ok (x ∷ xs, j)) w h (λ xs j. within_ok (List A) (x ∷ xs) j) (λ xs j e near same. refl)
keeps_after_item ys x false k o p w h = λ same. refl

keeps_items : {A : Type 0} (first : TokenClass → List ℕ → Option Cause) (many : Cause) (item : Input → Outcome A) (ys : List Seen)
    → ((i : Input) → Within i (item i)) → ((i : Input) → Keeps ys i (item i) (item (over ys i)))
    → (room : ℕ) (i : Input) → Keeps ys i (items first many item room i) (items first many item room (over ys i))
unfolding items
keeps_items first many item ys w h zero i = at_test ys i (items first many item 0 i) first (λ c. Err (syntax_error i (surplus c many))) (within_items first many item w zero i) (λ same. refl)
keeps_items {A} first many item ys w h (suc room) i =
    at_test ys i (items first many item (suc room) i) first (λ c. and_then (tested c (over ys i) (item (over ys i))) onward) (within_items first many item w (suc room) i)
    (keeps_then ys i (tested (tried first i) i (item i)) (tested (tried first i) (over ys i) (item (over ys i))) onward onward (within_tested (tried first i) i (item i) (w i))
    (keeps_tested ys i (tried first i) (item i) (item (over ys i)) (h i)) inside
    (λ x k e near. after x k (keeps_items first many item ys w h room (next k))))
  where
    others : Input → Outcome (List A)
    others k = items first many item room (next k)

    onward : A → Input → Outcome (List A)
    onward x k = after_item x (is_comma (class_at k)) k (others k)

    inside : (x : A) (k : Input) → Within k (onward x k)
    inside x k = within_after_item x (is_comma (class_at k)) k (others k) refl (within_items first many item w room (next k))

    after : (x : A) (k : Input) → Keeps ys (next k) (others k) (others (over ys k)) → Keeps ys k (onward x k) (onward x (over ys k))
    after x k h = at_hand ys k (onward x k) (λ q. after_item x (is_comma q) (over ys k) (others (over ys k))) (inside x k)
        (keeps_after_item ys x (is_comma (class_at k)) k (others k) (others (over ys k)) (within_items first many item w room (next k)) h)

keeps_after_turn : {S : Type 0} (ys : List Seen) (b : Bool) (k : Input) (o p : Outcome S) → Keeps ys k o p → Keeps ys k (after_turn b k o) (after_turn b (over ys k) p)
keeps_after_turn ys true k o p h = h
keeps_after_turn ys false k o p h = λ same. refl

-- where the lists are the same at an index, it is in both of them
also_within : (xs ys : List Seen) (n : ℕ) → slice_get xs n ≡ slice_get ys n → n < length xs → n < length ys
also_within xs ys n e h = go (slice_get xs n) refl (slice_get_cases xs n).1
  where
    go : (t : Option Seen) → slice_get xs n ≡ t → ((x : Seen) × (n < length xs) × (slice_get xs n ≡ Some x) × (get_or xs n x ≡ x)) ⊎ ((length xs ≤ n) × (slice_get xs n ≡ None)) → n < length ys
    go None f w = absurd (grind (arith, f, h))
    go (Some x) f w = slice_get_within ys n x (sym e ∙ f)

-- an item that takes a token leaves fewer
pub fewer_left : (i k : Input) (n : ℕ) → i.at < k.at → k.at ≤ i.at + left i → k.all ≡ i.all → left i < suc n → left k < n
fewer_left i k n moved high same h = let e : length k.all ≡ length i.all = ap length same in omega arith

fewer_left_over : (ys : List Seen) (i k : Input) (n : ℕ) → i.at < k.at → k.at ≤ i.at + left i → SameUpTo k.at i.all ys → left (over ys i) < suc n → left (over ys k) < n
fewer_left_over ys i k n moved high near h =
    let inside = also_within i.all ys i.at (near i.at (omega arith)) (omega arith) in omega arith

pub within_result : {A : Type 0} (i : Input) (o : Outcome A) (x : A) (k : Input) → Within i o → o ≡ Ok (x, k) → (i.at ≤ k.at) × (k.at ≤ i.at + left i) × (k.all ≡ i.all)
within_result i o x k w e = subst (Within i) e w

keeps_turns : {S : Type 0} (stop : TokenClass → S → Bool) (step : S → Input → Outcome S) (ys : List Seen)
    → ((s : S) (i : Input) → Within i (step s i)) → ((s : S) (i : Input) → Keeps ys i (step s i) (step s (over ys i)))
    → (n m : ℕ) (s : S) (i : Input) → left i < n → left (over ys i) < m → Keeps ys i (turns stop step n s i) (turns stop step m s (over ys i))
unfolding turns
keeps_turns stop step ys w h zero m s i few few_over = absurd (omega arith)
keeps_turns stop step ys w h (suc n) zero s i few few_over = absurd (omega arith)
keeps_turns {S} stop step ys w h (suc n) (suc m) s i few few_over =
    at_hand ys i (turns stop step (suc n) s i) (λ q. cond (stop q s) (Ok (s, over ys i)) (and_then (step s (over ys i)) (onward m))) (within_turns stop step w (suc n) s i)
    (keeps_cond ys i (stop (class_at i) s) (Ok (s, i)) (and_then (step s i) (onward n)) (Ok (s, over ys i)) (and_then (step s (over ys i)) (onward m)) (λ same. refl)
    (keeps_then ys i (step s i) (step s (over ys i)) (onward n) (onward m) (w s i) (h s i) inside
    (λ t k e near. after t k e near (ltb i.at k.at) refl (keeps_turns stop step ys w h n m t k))))
  where
    onward : ℕ → S → Input → Outcome S
    onward l t k = after_turn (ltb i.at k.at) k (turns stop step l t k)

    inside : (t : S) (k : Input) → Within k (onward n t k)
    inside t k = within_after_turn (ltb i.at k.at) k (turns stop step n t k) (within_turns stop step w n t k)

    after : (t : S) (k : Input) → step s i ≡ Ok (t, k) → SameUpTo k.at i.all ys → (b : Bool) → ltb i.at k.at ≡ b
        → (left k < n → left (over ys k) < m → Keeps ys k (turns stop step n t k) (turns stop step m t (over ys k)))
        → Keeps ys k (after_turn b k (turns stop step n t k)) (after_turn b (over ys k) (turns stop step m t (over ys k)))
    after t k e near false l below = λ same. refl
    after t k e near true l below =
        let v = within_result i (step s i) t k (w s i) e in
        let moved = ltb-true i.at k.at l in
        below (fewer_left i k n moved v.1 v.2 few) (fewer_left_over ys i k m moved v.1 near few_over)

keeps_counted : {A : Type 0} (ys : List Seen) (i : Input) (r : Result (A × State) Cause) → Keeps ys i (counted i r) (counted (over ys i) r)
keeps_counted ys i (Ok r) = λ same. refl
keeps_counted ys i (Err cause) = λ same. refl

pub keeps : (A : Type 0) (g : G A) (ys : List Seen) (i : Input) → Keeps ys i (run A g i) (run A g (over ys i))
keeps _ (ret A a) ys i = λ same. refl
keeps _ (refuse A cause) ys i = λ same. refl
keeps _ (refuse_at A index cause) ys i = λ same. refl
keeps _ lookahead ys i = λ same. ap (λ h. Ok (h, over ys i)) (lookahead_over ys i same)
keeps _ pass ys i = at_hand ys i (run (Unit {0}) pass i) (λ q. cond (is_end q) (Err (syntax_error i Unexpected)) (Ok (tt {0}, next (over ys i)))) (within (Unit {0}) pass i)
    (keeps_cond ys i (is_end (class_at i)) (Err (syntax_error i Unexpected)) (Ok (tt {0}, next i)) (Err (syntax_error i Unexpected)) (Ok (tt {0}, next (over ys i))) (λ same. refl) (λ same. refl))
keeps _ (count A step) ys i = keeps_counted ys i (step i.state)
keeps _ (bind A B p f) ys i = keeps_then ys i (run A p i) (run A p (over ys i)) (λ x k. run B (f x) k) (λ x k. run B (f x) k) (within A p i) (keeps A p ys i) (λ x k. within B (f x) k)
    (λ x k e near. keeps B (f x) ys k)
keeps _ (separated A first many p room) ys i = keeps_items first many (run A p) ys (within A p) (keeps A p ys) room i
keeps _ (until S stop step s) ys i =
    keeps_turns stop (λ t. run S (step t)) ys (λ t k. within S (step t) k) (λ t k. keeps S (step t) ys k) (suc (left i)) (suc (left (over ys i))) s i (omega arith) (omega arith)
