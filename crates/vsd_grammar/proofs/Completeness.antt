-- What is allowed is read.
use Rattle.std.proofs.Common.{◌≡◌, ℕ, zero, suc, ◌≤◌, ◌<◌, Bool, true, false, ◌||◌, cond, ltb, List, [], ◌∷◌, length, IsTrue, Option, None, Ok, Err, refl, ap, sym, subst, ◌∙◌, arith}
use Rattle.std.proofs.lemmas.Bool.{lt-ltb}
use Rattle.vsd_grammar.specs.declared.token_class.TokenClass.{TokenClass}
use Rattle.vsd_grammar.specs.declared.cause.Cause.{Cause}
use Rattle.vsd_grammar.specs.declared.cause.Cause.TheVariants.{Unexpected}
use Rattle.vsd_grammar.specs.Input.{Input, class_at, next, left, is_end, is_comma, lookahead_of}
use Rattle.vsd_grammar.specs.Grammar.{G, ret, refuse, refuse_at, lookahead, pass, count, bind, separated, until, Outcome, and_then, counted, tested, tried, after_item, after_turn, syntax_error, items, turns, run, Items, Turns, Derives, Follows, Decides}
use Rattle.vsd_grammar.proofs.Bounds.{Within, within}
use Rattle.vsd_grammar.proofs.Keeping.{within_result, fewer_left}

ok_same : {A : Type 0} (x y : A) (i j : Input) → x ≡ y → i ≡ j → ◌≡◌ {A = Outcome A} (Ok (x, i)) (Ok (y, j))
ok_same x y i j e f = cc

-- the first item of a list, and those after it
complete_first : {A : Type 0} (x : A) (k : Input) (b : Bool) (o : Outcome (List A)) (xs : List A) (j : Input) → b ≡ true → o ≡ Ok (xs, j) → after_item x b k o ≡ Ok (x ∷ xs, j)
complete_first x k true o xs j e f = ap (λ r. and_then r (λ ys m. Ok (x ∷ ys, m))) f
complete_first x k false o xs j e f = absurd cc

complete_last : {A : Type 0} (x : A) (k j : Input) (b : Bool) (o : Outcome (List A)) → b ≡ false → k ≡ j → after_item x b k o ≡ Ok (x ∷ [], j)
complete_last x k j true o e f = absurd cc
complete_last x k j false o e f = ok_same (x ∷ []) (x ∷ []) k j refl f

or_left : (a b : Bool) → a ≡ true → IsTrue (a || b)
or_left true b e = refl
or_left false b e = absurd cc

or_right : (a b : Bool) → b ≡ true → IsTrue (a || b)
or_right true b e = refl
or_right false b e = e

complete_items : {A : Type 0} (first : TokenClass → List ℕ → Option Cause) (many : Cause) (item : Input → Outcome A) (Item : Input → A → Input → Type 0) (F : TokenClass → Bool)
    → ((i : Input) (x : A) (j : Input) → Item i x j → IsTrue (is_comma (class_at j) || F (class_at j)) → item i ≡ Ok (x, j))
    → ((q : TokenClass) → IsTrue (F q) → is_comma q ≡ false)
    → ((i : Input) (x : A) (j : Input) → Item i x j → tried first i ≡ None)
    → (room : ℕ) (xs : List A) (i j : Input) → length xs ≤ room → Items Item xs i j → IsTrue (F (class_at j)) → items first many item room i ≡ Ok (xs, j)
unfolding items
complete_items first many item Item F h apart begins room [] i j fits d f = absurd d
complete_items first many item Item F h apart begins zero (x ∷ xs) i j fits d f = absurd (omega arith)
complete_items {A} first many item Item F h apart begins (suc room) (x ∷ []) i j fits d f =
    let onward : A → Input → Outcome (List A) = λ y k. after_item y (is_comma (class_at k)) k (items first many item room (next k)) in
    let last = subst (λ k. IsTrue (F (class_at k))) (sym d.2) f in
    let one = h i x d.0 d.1 (or_right (is_comma (class_at d.0)) (F (class_at d.0)) last) in
    ap (λ c. and_then (tested c i (item i)) onward) (begins i x d.0 d.1)
    ∙ ap (λ o. and_then o onward) one ∙ complete_last x d.0 j (is_comma (class_at d.0)) _ (apart (class_at d.0) last) d.2
complete_items {A} first many item Item F h apart begins (suc room) (x ∷ y ∷ xs) i j fits d f =
    let onward : A → Input → Outcome (List A) = λ z k. after_item z (is_comma (class_at k)) k (items first many item room (next k)) in
    let one = h i x d.0 d.1 (or_left (is_comma (class_at d.0)) (F (class_at d.0)) d.2.0) in
    let others = complete_items first many item Item F h apart begins room (y ∷ xs) (next d.0) j (omega arith) (d.2.1, d.2.2, d.2.3) f in
    ap (λ c. and_then (tested c i (item i)) onward) (begins i x d.0 d.1)
    ∙ ap (λ o. and_then o onward) one ∙ complete_first x d.0 (is_comma (class_at d.0)) _ (y ∷ xs) j d.2.0 others

-- what may follow an item: a token at which to stop, or the next item
follow_turns : {S : Type 0} (stop : TokenClass → S → Bool) (Item : S → Input → S → Input → Type 0) (M : TokenClass → Bool)
    → ((s : S) → Follows (Item s) M M) → ((q : TokenClass) (s : S) → IsTrue (stop q s) → IsTrue (M q))
    → (n : ℕ) (s : S) (i : Input) (t : S) (j : Input) → Turns stop Item n s i t j → IsTrue (M (class_at i))
follow_turns stop Item M onward ends zero s i t j d = ends (class_at i) s d.0
follow_turns stop Item M onward ends (suc n) s i t j d = onward s i d.1 d.2 d.3 (follow_turns stop Item M onward ends n d.1 d.2 t j d.5)

complete_stop : {S : Type 0} (b : Bool) (s t : S) (i j : Input) (o : Outcome S) → b ≡ true → s ≡ t → i ≡ j → cond b (Ok (s, i)) o ≡ Ok (t, j)
complete_stop true s t i j o b e f = ok_same s t i j e f
complete_stop false s t i j o b e f = absurd cc

complete_turn : {S : Type 0} (b c : Bool) (r : Outcome S) (o p : Outcome S) (k : Input) → b ≡ false → c ≡ true → o ≡ after_turn c k p → cond b r o ≡ p
complete_turn true c r o p k e f h = absurd cc
complete_turn false true r o p k e f h = h
complete_turn false false r o p k e f h = absurd cc

complete_turns : {S : Type 0} (stop : TokenClass → S → Bool) (step : S → Input → Outcome S) (Item : S → Input → S → Input → Type 0) (M : TokenClass → Bool)
    → ((s : S) (i : Input) → Within i (step s i))
    → ((s : S) (i : Input) (t : S) (j : Input) → Item s i t j → IsTrue (M (class_at j)) → step s i ≡ Ok (t, j))
    → ((s : S) → Follows (Item s) M M) → ((q : TokenClass) (s : S) → IsTrue (stop q s) → IsTrue (M q))
    → (n fuel : ℕ) (s : S) (i : Input) (t : S) (j : Input) → left i < fuel → Turns stop Item n s i t j → turns stop step fuel s i ≡ Ok (t, j)
unfolding turns
complete_turns stop step Item M w h onward ends n zero s i t j few d = absurd (omega arith)
complete_turns stop step Item M w h onward ends zero (suc fuel) s i t j few d = complete_stop (stop (class_at i) s) s t i j _ d.0 d.1 d.2
complete_turns {S} stop step Item M w h onward ends (suc n) (suc fuel) s i t j few d =
    let k = d.2 in
    let one = h s i d.1 k d.3 (follow_turns stop Item M onward ends n d.1 k t j d.5) in
    let v = within_result i (step s i) d.1 k (w s i) one in
    let others = complete_turns stop step Item M w h onward ends n fuel d.1 k t j (fewer_left i k fuel d.4 v.1 v.2 few) d.5 in
    complete_turn (stop (class_at i) s) (ltb i.at k.at) (Ok (s, i)) (and_then (step s i) (λ u m. after_turn (ltb i.at m.at) m (turns stop step fuel u m))) (turns stop step fuel d.1 k) k
    d.0 (lt-ltb i.at k.at d.4) (ap (λ o. and_then o (λ u m. after_turn (ltb i.at m.at) m (turns stop step fuel u m))) one)
    ∙ others

complete_pass : (b : Bool) (i j : Input) (x : Unit {0}) → b ≡ false → next i ≡ j → cond {A = Outcome (Unit {0})} b (Err (syntax_error i Unexpected)) (Ok (tt {0}, next i)) ≡ Ok (x, j)
complete_pass true i j x e f = absurd cc
complete_pass false i j x e f = ok_same (tt {0}) x (next i) j refl f

pub complete : (A : Type 0) (g : G A) (F : TokenClass → Bool) (i : Input) (x : A) (j : Input) → Decides A g F → Derives A g i x j → IsTrue (F (class_at j)) → run A g i ≡ Ok (x, j)
complete _ (ret A a) F i x j c d f = ok_same a x i j d.0 d.1
complete _ (refuse A cause) F i x j c d f = absurd d
complete _ (refuse_at A index cause) F i x j c d f = absurd d
complete _ lookahead F i x j c d f = ok_same (lookahead_of i) x i j d.0 d.1
complete _ pass F i x j c d f = complete_pass (is_end (class_at i)) i j x d.0 d.1
complete _ (count A step) F i x j c d f = ap (counted i) d.1 ∙ ok_same x x (record i { state = d.0 }) j refl d.2
complete _ (bind A B p f) F i y j c d follow =
    let after = c.2 d.0 in
    let one = complete A p c.0 i d.0 d.1 c.1 d.2 (after.1 d.1 y j d.3 follow) in
    ap (λ o. and_then o (λ x k. run B (f x) k)) one ∙ complete B (f d.0) F d.1 y j after.0 d.3 follow
complete _ (separated A first many p room) F i xs j c d f =
    complete_items first many (run A p) (Derives A p) F (λ k x m e g. complete A p (λ q. is_comma q || F q) k x m c.0 e g) c.1 c.2 room xs i j d.0 d.1 f
complete _ (until S stop step s) F i t j c d f =
    complete_turns stop (λ u. run S (step u)) (λ u. Derives S (step u)) c.0 (λ u k. within S (step u) k)
    (λ u k v m e g. complete S (step u) c.0 k v m (c.1 u).0 e g) (λ u. (c.1 u).1) c.2 d.0 (suc (left i)) s i t j (omega arith) d.1
