-- A reading goes on from its place within the list, and never changes the list.
use Rattle.std.proofs.Common.{◌≡◌, ℕ, zero, suc, ◌+◌, ◌≤◌, ◌<◌, Bool, true, false, cond, ltb, List, [], ◌∷◌, length, Option, Some, None, Result, Ok, Err, refl, ap, ◌∙◌, arith}
use Rattle.vsd_grammar.specs.declared.token_class.TokenClass.{TokenClass}
use Rattle.vsd_grammar.specs.declared.cause.Cause.{Cause}
use Rattle.vsd_grammar.specs.declared.cause.Cause.TheVariants.{Unexpected}
use Rattle.vsd_grammar.specs.declared.token_class.TokenClass.TheVariants as class
use Rattle.vsd_grammar.specs.Input.{Input, State, Seen, class_at, next, left, is_end, is_comma, class_of, lookahead_of}
use Rattle.vsd_grammar.specs.Grammar.{G, ret, refuse, refuse_at, lookahead, pass, count, bind, separated, until, Outcome, and_then, counted, tested, tried, surplus, after_item, after_turn, syntax_error, items, turns, run}
use Rattle.std.specs.List.{slice_get}
use Rattle.std.proofs.lemmas.Option.{slice_get_within}

-- the index of the last token that was looked at
abbrev pub reach : {A : Type 0} → Outcome A → ℕ
reach (Ok r) = r.1.at
reach (Err e) = e.by

abbrev pub Within : {A : Type 0} → Input → Outcome A → Type 0
Within i (Ok r) = (i.at ≤ r.1.at) × (r.1.at ≤ i.at + left i) × (r.1.all ≡ i.all)
Within i (Err e) = (i.at ≤ e.by) × (e.by ≤ i.at + left i)

pub within_on : {A : Type 0} (i k : Input) (o : Outcome A) → i.at ≤ k.at → k.at ≤ i.at + left i → k.all ≡ i.all → Within k o → Within i o
within_on i k (Ok r) low high same w = let e : length k.all ≡ length i.all = ap length same in (omega arith, omega arith, w.2 ∙ same)
within_on i k (Err r) low high same w = let e : length k.all ≡ length i.all = ap length same in (omega arith, omega arith)

pub within_then : {A B : Type 0} (i : Input) (o : Outcome A) (f : A → Input → Outcome B) → Within i o → ((x : A) (k : Input) → Within k (f x k)) → Within i (and_then o f)
within_then i (Ok r) f w h = within_on i r.1 (f r.0 r.1) w.0 w.1 w.2 (h r.0 r.1)
within_then i (Err e) f w h = w

within_here : (A : Type 0) (x : A) (i : Input) → Within {A = A} i (Ok (x, i))
within_here A x i = (omega arith, omega arith, refl)

pub within_refusal : (A : Type 0) (i : Input) (cause : Cause) → Within {A = A} i (Err (syntax_error i cause))
within_refusal A i cause = (omega arith, omega arith)

-- a token at hand is one of those left
pub some_left : (i : Input) → is_end (class_at i) ≡ false → 0 < left i
unfolding class_at
some_left i e = go (slice_get i.all i.at) refl e
  where
    go : (t : Option Seen) → slice_get i.all i.at ≡ t → is_end (class_of t) ≡ false → 0 < left i
    go None e h = absurd (cc)
    go (Some t) e h = let w = slice_get_within i.all i.at t e in omega arith

within_next : {A : Type 0} (i : Input) (o : Outcome A) → 0 < left i → Within (next i) o → Within i o
within_next i o some w = within_on i (next i) o (omega arith) (omega arith) refl w

within_pass : (i : Input) (b : Bool) → is_end (class_at i) ≡ b → Within {A = Unit {0}} i (cond b (Err (syntax_error i Unexpected)) (Ok (tt {0}, next i)))
within_pass i true e = within_refusal (Unit {0}) i Unexpected
within_pass i false e = within_next {A = Unit {0}} i (Ok (tt {0}, next i)) (some_left i e) (within_here (Unit {0}) (tt {0}) (next i))

within_counted : {A : Type 0} (i : Input) (r : Result (A × State) Cause) → Within i (counted i r)
within_counted i (Ok r) = (omega arith, omega arith, refl)
within_counted i (Err cause) = (omega arith, omega arith)

pub within_tested : {A : Type 0} (c : Option Cause) (i : Input) (o : Outcome A) → Within i o → Within i (tested c i o)
within_tested None i o w = w
within_tested {A} (Some cause) i o w = within_refusal A i cause

-- a comma is a token
comma_is_some : (i : Input) → is_comma (class_at i) ≡ true → is_end (class_at i) ≡ false
comma_is_some i e = go (class_at i) e
  where
    go : (q : TokenClass) → is_comma q ≡ true → is_end q ≡ false
    go class.End h = absurd (cc)
    go _ h = refl

pub some_left_comma : (i : Input) → is_comma (class_at i) ≡ true → 0 < left i
some_left_comma i e = some_left i (comma_is_some i e)

pub within_after_item : {A : Type 0} (x : A) (b : Bool) (k : Input) (o : Outcome (List A)) → is_comma (class_at k) ≡ b → Within (next k) o → Within k (after_item x b k o)
within_after_item {A} x true k o e w = within_next k _ (some_left_comma k e) (within_then (next k) o _ w (λ xs j. within_here (List A) (x ∷ xs) j))
within_after_item {A} x false k o e w = within_here (List A) (x ∷ []) k

pub within_items : {A : Type 0} (first : TokenClass → List ℕ → Option Cause) (many : Cause) (item : Input → Outcome A) → ((i : Input) → Within i (item i))
    → (room : ℕ) (i : Input) → Within i (items first many item room i)
unfolding items
within_items {A} first many item h zero i = within_refusal (List A) i (surplus (tried first i) many)
within_items {A} first many item h (suc room) i = within_then i (tested (tried first i) i (item i)) _ (within_tested (tried first i) i (item i) (h i))
    (λ x k. within_after_item x (is_comma (class_at k)) k _ refl (within_items first many item h room (next k)))

pub within_after_turn : {S : Type 0} (b : Bool) (k : Input) (o : Outcome S) → Within k o → Within k (after_turn b k o)
within_after_turn true k o w = w
within_after_turn {S} false k o w = within_refusal S k Unexpected

pub within_turns : {S : Type 0} (stop : TokenClass → S → Bool) (step : S → Input → Outcome S) → ((s : S) (i : Input) → Within i (step s i))
    → (n : ℕ) (s : S) (i : Input) → Within i (turns stop step n s i)
unfolding turns
within_turns {S} stop step h zero s i = within_refusal S i Unexpected
within_turns {S} stop step h (suc n) s i = stopped (stop (class_at i) s) _ (within_then i (step s i) _ (h s i)
    (λ t k. within_after_turn (ltb i.at k.at) k _ (within_turns stop step h n t k)))
  where
    stopped : (b : Bool) (o : Outcome S) → Within i o → Within i (cond b (Ok (s, i)) o)
    stopped true o w = within_here S s i
    stopped false o w = w

pub within : (A : Type 0) (g : G A) (i : Input) → Within i (run A g i)
within _ (ret A a) i = within_here A a i
within _ (refuse A cause) i = within_refusal A i cause
within _ (refuse_at A index cause) i = (omega arith, omega arith)
within _ lookahead i = within_here _ (lookahead_of i) i
within _ pass i = within_pass i (is_end (class_at i)) refl
within _ (count A step) i = within_counted i (step i.state)
within _ (bind A B p f) i = within_then i (run A p i) _ (within A p i) (λ x k. within B (f x) k)
within _ (separated A first many p room) i = within_items first many (run A p) (within A p) room i
within _ (until S stop step s) i = within_turns stop (λ t. run S (step t)) (λ t k. within S (step t) k) (suc (left i)) s i
