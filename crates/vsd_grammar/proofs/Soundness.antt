-- What is read is allowed.
use Rattle.std.proofs.Common.{◌≡◌, ℕ, zero, suc, ◌≤◌, min, Bool, true, false, cond, ltb, List, [], ◌∷◌, length, Option, Some, None, Result, Ok, Err, refl, ap, subst, ◌∙◌, arith}
use Rattle.std.proofs.lemmas.Bool.{ltb-true}
use Rattle.vsd_grammar.specs.declared.token_class.TokenClass.{TokenClass}
use Rattle.vsd_grammar.specs.declared.cause.Cause.{Cause}
use Rattle.vsd_grammar.specs.declared.cause.Cause.TheVariants.{Unexpected}
use Rattle.vsd_grammar.specs.Input.{Input, State, class_at, next, left, is_end, is_comma, lookahead_of}
use Rattle.vsd_grammar.specs.Grammar.{G, ret, refuse, refuse_at, lookahead, pass, count, bind, separated, until, Outcome, and_then, counted, tested, tried, surplus, after_item, after_turn, syntax_error, items, turns, run, MoreItems, Items, Turns, Derives}
use Rattle.vsd_grammar.proofs.Outcomes.{ok_parts, err_ok, and_then_ok}

sound_pass : (i : Input) (b : Bool) (x : Unit {0}) (j : Input) → is_end (class_at i) ≡ b → cond {A = Outcome (Unit {0})} b (Err (syntax_error i Unexpected)) (Ok (tt {0}, next i)) ≡ Ok (x, j) → Derives (Unit {0}) pass i x j
sound_pass i true x j b e = absurd (err_ok (syntax_error i Unexpected) x j e)
sound_pass i false x j b e = (b, (ok_parts (tt {0}) x (next i) j e).1)

sound_count : (A : Type 0) (step : State → Result (A × State) Cause) (i : Input) (r : Result (A × State) Cause) (x : A) (j : Input)
    → step i.state ≡ r → counted i r ≡ Ok (x, j) → Derives A (count A step) i x j
sound_count A step i (Ok r) x j s e =
    let p = ok_parts r.0 x (record i { state = r.1 }) j e in
    (r.1, s ∙ ap (λ v. Ok (v, r.1)) p.0, p.1)
sound_count A step i (Err cause) x j s e = absurd (err_ok (syntax_error i cause) x j e)

-- items after a comma are more items
more_from : {A : Type 0} (Item : Input → A → Input → Type 0) (xs : List A) (i j : Input) → is_comma (class_at i) ≡ true → Items Item xs (next i) j → MoreItems Item xs i j
more_from Item [] i j comma h = absurd h
more_from Item (x ∷ xs) i j comma h = (comma, h.0, h.1, h.2)

abbrev IsListed : {A : Type 0} → (Input → A → Input → Type 0) → ℕ → List A → Input → Input → Type 0
IsListed Item room xs i j = (length xs ≤ room) × Items Item xs i j

-- what the items after one give, if they are read below
sound_after_item : {A : Type 0} (Item : Input → A → Input → Type 0) (room : ℕ) (i : Input) (xs : List A) (j : Input) (x : A) (b : Bool) (k : Input) (o : Outcome (List A))
    → Item i x k → is_comma (class_at k) ≡ b → ((ys : List A) (m : Input) → o ≡ Ok (ys, m) → IsListed Item room ys (next k) m)
    → after_item x b k o ≡ Ok (xs, j) → IsListed Item (suc room) xs i j
sound_after_item {A} Item room i xs j x true k o d comma below e =
    let w = and_then_ok o (λ ys m. Ok (x ∷ ys, m)) xs j e in
    let same = ok_parts (x ∷ w.0) xs w.1 j w.3 in
    let more = below w.0 w.1 w.2 in
    let both : IsListed Item (suc room) (x ∷ w.0) i w.1 = (omega arith, (k, d, more_from Item w.0 k w.1 comma more.1)) in
    subst (λ v. IsListed Item (suc room) v i j) same.0 (subst (λ m. IsListed Item (suc room) (x ∷ w.0) i m) same.1 both)
sound_after_item {A} Item room i xs j x false k o d comma below e =
    let same = ok_parts (x ∷ []) xs k j e in
    let both : IsListed Item (suc room) (x ∷ []) i k = (omega arith, (k, d, refl)) in
    subst (λ v. IsListed Item (suc room) v i j) same.0 (subst (λ m. IsListed Item (suc room) (x ∷ []) i m) same.1 both)

tested_ok : {A : Type 0} (c : Option Cause) (i : Input) (o : Outcome A) (x : A) (j : Input) → tested c i o ≡ Ok (x, j) → o ≡ Ok (x, j)
tested_ok None i o x j e = e
tested_ok (Some cause) i o x j e = absurd (err_ok (syntax_error i cause) x j e)

sound_items : {A : Type 0} (first : TokenClass → List ℕ → Option Cause) (many : Cause) (item : Input → Outcome A) (Item : Input → A → Input → Type 0)
    → ((i : Input) (x : A) (j : Input) → item i ≡ Ok (x, j) → Item i x j)
    → (room : ℕ) (i : Input) (xs : List A) (j : Input) → items first many item room i ≡ Ok (xs, j) → IsListed Item room xs i j
unfolding items
sound_items first many item Item h zero i xs j e = absurd (err_ok (syntax_error i (surplus (tried first i) many)) xs j e)
sound_items {A} first many item Item h (suc room) i xs j e =
    let onward : A → Input → Outcome (List A) = λ x k. after_item x (is_comma (class_at k)) k (items first many item room (next k)) in
    let w = and_then_ok (tested (tried first i) i (item i)) onward xs j e in
    let one = tested_ok (tried first i) i (item i) w.0 w.1 w.2 in
    sound_after_item Item room i xs j w.0 (is_comma (class_at w.1)) w.1 _ (h i w.0 w.1 one) refl (sound_items first many item Item h room (next w.1)) w.3

after_turn_ok : {S : Type 0} (b : Bool) (k : Input) (o : Outcome S) (t : S) (j : Input) → after_turn b k o ≡ Ok (t, j) → (b ≡ true) × (o ≡ Ok (t, j))
after_turn_ok true k o t j e = (refl, e)
after_turn_ok false k o t j e = absurd (err_ok (syntax_error k Unexpected) t j e)

sound_turns : {S : Type 0} (stop : TokenClass → S → Bool) (step : S → Input → Outcome S) (Item : S → Input → S → Input → Type 0)
    → ((s : S) (i : Input) (t : S) (j : Input) → step s i ≡ Ok (t, j) → Item s i t j)
    → (n : ℕ) (s : S) (i : Input) (t : S) (j : Input) → turns stop step n s i ≡ Ok (t, j) → (m : ℕ) × Turns stop Item m s i t j
unfolding turns
sound_turns stop step Item h zero s i t j e = absurd (err_ok (syntax_error i Unexpected) t j e)
sound_turns {S} stop step Item h (suc n) s i t j e = stopped (sound_turns stop step Item h n) (stop (class_at i) s) refl e
  where
    onward : S → Input → Outcome S
    onward u k = after_turn (ltb i.at k.at) k (turns stop step n u k)

    stopped : ((u : S) (k : Input) (v : S) (m : Input) → turns stop step n u k ≡ Ok (v, m) → (l : ℕ) × Turns stop Item l u k v m)
        → (b : Bool) → stop (class_at i) s ≡ b → cond b (Ok (s, i)) (and_then (step s i) onward) ≡ Ok (t, j) → (m : ℕ) × Turns stop Item m s i t j
    stopped below true b f = let same = ok_parts s t i j f in (0, (b, same.0, same.1))
    stopped below false b f =
        let w = and_then_ok (step s i) onward t j f in
        let v = after_turn_ok (ltb i.at w.1.at) w.1 (turns stop step n w.0 w.1) t j w.3 in
        let m = below w.0 w.1 t j v.1 in
        (suc m.0, (b, w.0, w.1, h s i w.0 w.1 w.2, ltb-true i.at w.1.at v.0, m.1))

pub sound : (A : Type 0) (g : G A) (i : Input) (x : A) (j : Input) → run A g i ≡ Ok (x, j) → Derives A g i x j
sound _ (ret A a) i x j e = ok_parts a x i j e
sound _ (refuse A cause) i x j e = absurd (err_ok (syntax_error i cause) x j e)
sound _ (refuse_at A index cause) i x j e = absurd (err_ok (record { at = min index i.at; by = i.at; cause = cause }) x j e)
sound _ lookahead i x j e = ok_parts (lookahead_of i) x i j e
sound _ pass i x j e = sound_pass i (is_end (class_at i)) x j refl e
sound _ (count A step) i x j e = sound_count A step i (step i.state) x j refl e
sound _ (bind A B p f) i y j e =
    let w = and_then_ok (run A p i) (λ x k. run B (f x) k) y j e in
    (w.0, w.1, sound A p i w.0 w.1 w.2, sound B (f w.0) w.1 y j w.3)
sound _ (separated A first many p room) i xs j e = sound_items first many (run A p) (Derives A p) (sound A p) room i xs j e
sound _ (until S stop step s) i t j e =
    sound_turns stop (λ u. run S (step u)) (λ u. Derives S (step u)) (λ u. sound S (step u)) (suc (left i)) s i t j e
