-- Grammars as data, with their two readings: `run` is what reading gives, `Derives` what the productions allow.
use Rattle.std.specs.Prelude.{◌≡◌, ℕ, zero, suc, ◌<◌, ◌≤◌, nat_lt, min, Bool, false, ◌||◌, if◌then◌else◌, IsTrue, List, [], ◌∷◌, length, Option, Some, None, Result, Ok, Err}
use Rattle.vsd_grammar.specs.declared.token_class.TokenClass.{TokenClass}
use Rattle.vsd_grammar.specs.declared.cause.Cause.{Cause}
use Rattle.vsd_grammar.specs.declared.cause.Cause.TheVariants.{Unexpected}
use Rattle.vsd_grammar.specs.declared.syntax_error.SyntaxError.{SyntaxError}
use Rattle.vsd_grammar.specs.Input.{Input, State, Lookahead, lookahead_of, class_at, bytes_at, next, left, is_end, is_comma}

-- A production that gives a value of type A.
pub data G : Type 0 → Type 1 where
  -- reads nothing and gives this value
  ret : (A : Type 0) → A → G A
  -- refuses the token at hand
  refuse : (A : Type 0) → Cause → G A
  -- refuses the token of this index, or the one at hand where that comes before it
  refuse_at : (A : Type 0) → ℕ → Cause → G A
  -- looks at the token at hand
  lookahead : G Lookahead
  -- passes over the token at hand, whatever it is
  pass : G (Unit {0})
  -- counts, where this step of the counts allows it
  count : (A : Type 0) → (State → Result (A × State) Cause) → G A
  -- one production, and then one that may depend on its value
  bind : (A B : Type 0) → G A → (A → G B) → G B
  -- p { "," p }, at most so many. The test says with what cause a token of this class, with these bytes, is refused
  -- that can't begin p, and the cause after it is that of one too many.
  separated : (A : Type 0) → (TokenClass → List ℕ → Option Cause) → Cause → G A → ℕ → G (List A)
  -- { p } up to a token at which to stop. Each p has a token at least, and goes on from what the one before gave.
  until : (S : Type 0) → (TokenClass → S → Bool) → (S → G S) → S → G S

-- ---- what reading gives: a value and the input after it, or the first refusal

abbrev pub Outcome : Type 0 → Type 0
Outcome A = Result (A × Input) SyntaxError

-- the refusal of the token at hand
abbrev pub syntax_error : Input → Cause → SyntaxError
syntax_error i cause = record { at = i.at; by = i.at; cause = cause }

abbrev pub and_then : {A B : Type 0} → Outcome A → (A → Input → Outcome B) → Outcome B
and_then (Ok r) f = f r.0 r.1
and_then (Err e) f = Err e

abbrev pub counted : {A : Type 0} → Input → Result (A × State) Cause → Outcome A
counted i (Ok r) = Ok (r.0, record i { state = r.1 })
counted i (Err cause) = Err (syntax_error i cause)

-- what is read where the test of its first token finds no cause to refuse it
abbrev pub tested : {A : Type 0} → Option Cause → Input → Outcome A → Outcome A
tested None i o = o
tested (Some cause) i o = Err (syntax_error i cause)

-- the cause of an item where none is allowed
abbrev pub surplus : Option Cause → Cause → Cause
surplus None many = many
surplus (Some cause) many = cause

-- an item, and the others after it where a comma stands
abbrev pub after_item : {A : Type 0} → A → Bool → Input → Outcome (List A) → Outcome (List A)
after_item x comma k others = if comma then and_then others (λ xs j. Ok (x ∷ xs, j)) else Ok (x ∷ [], k)

-- the test of the token at hand
abbrev pub tried : (TokenClass → List ℕ → Option Cause) → Input → Option Cause
tried first i = first (class_at i) (bytes_at i)

unfoldable pub items : {A : Type 0} → (TokenClass → List ℕ → Option Cause) → Cause → (Input → Outcome A) → ℕ → Input → Outcome (List A)
items first many item zero i = Err (syntax_error i (surplus (tried first i) many))
items first many item (suc room) i = and_then (tested (tried first i) i (item i))
    (λ x k. after_item x (is_comma (class_at k)) k (items first many item room (next k)))

-- the turns after one that took a token
abbrev pub after_turn : {S : Type 0} → Bool → Input → Outcome S → Outcome S
after_turn moved k others = if moved then others else Err (syntax_error k Unexpected)

-- An item that takes no token is refused; so there are no more turns than tokens left, and one.
unfoldable pub turns : {S : Type 0} → (TokenClass → S → Bool) → (S → Input → Outcome S) → ℕ → S → Input → Outcome S
turns stop step zero s i = Err (syntax_error i Unexpected)
turns stop step (suc n) s i = if stop (class_at i) s then Ok (s, i)
    else and_then (step s i) (λ t k. after_turn (nat_lt i.at k.at) k (turns stop step n t k))

abbrev pub run : (A : Type 0) → G A → Input → Outcome A
run _ (ret A a) i = Ok (a, i)
run _ (refuse A cause) i = Err (syntax_error i cause)
run _ (refuse_at A index cause) i = Err (record { at = min index i.at; by = i.at; cause = cause })
run _ lookahead i = Ok (lookahead_of i, i)
run _ pass i = if is_end (class_at i) then Err (syntax_error i Unexpected) else Ok (tt, next i)
run _ (count A step) i = counted i (step i.state)
run _ (bind A B p f) i = and_then (run A p i) (λ x k. run B (f x) k)
run _ (separated A first many p room) i = items first many (run A p) room i
run _ (until S stop step s) i = turns stop (λ t. run S (step t)) (suc (left i)) s i

-- ---- what the productions allow, with no word on how it is found

-- { "," p }
abbrev pub MoreItems : {A : Type 0} → (Input → A → Input → Type 0) → List A → Input → Input → Type 0
MoreItems Item [] i j = i ≡ j
MoreItems Item (x ∷ xs) i j = IsTrue (is_comma (class_at i)) × (k : Input) × Item (next i) x k × MoreItems Item xs k j

-- p { "," p }
abbrev pub Items : {A : Type 0} → (Input → A → Input → Type 0) → List A → Input → Input → Type 0
Items Item [] i j = ⊥
Items Item (x ∷ xs) i j = (k : Input) × Item i x k × MoreItems Item xs k j

-- n items up to a token at which to stop, from s to t
abbrev pub Turns : {S : Type 0} → (TokenClass → S → Bool) → (S → Input → S → Input → Type 0) → ℕ → S → Input → S → Input → Type 0
Turns stop Item zero s i t j = IsTrue (stop (class_at i) s) × (s ≡ t) × (i ≡ j)
Turns {S} stop Item (suc n) s i t j =
    (stop (class_at i) s ≡ false) × (u : S) × (k : Input) × Item s i u k × (i.at < k.at) × Turns stop Item n u k t j

-- the production allows the value x from the place i to the place j
abbrev pub Derives : (A : Type 0) → G A → Input → A → Input → Type 0
Derives _ (ret A a) i x j = (a ≡ x) × (i ≡ j)
Derives _ (refuse A cause) i x j = ⊥
Derives _ (refuse_at A index cause) i x j = ⊥
Derives _ lookahead i x j = (lookahead_of i ≡ x) × (i ≡ j)
Derives _ pass i x j = (is_end (class_at i) ≡ false) × (next i ≡ j)
Derives _ (count A step) i x j = (s : State) × (step i.state ≡ Ok (x, s)) × (record i { state = s } ≡ j)
Derives _ (bind A B p f) i y j = (x : A) × (k : Input) × Derives A p i x k × Derives B (f x) k y j
Derives _ (separated A first many p room) i xs j = (length xs ≤ room) × Items (Derives A p) xs i j
Derives _ (until S stop step s) i t j = (n : ℕ) × Turns stop (λ u. Derives S (step u)) n s i t j

-- ---- the condition on which what is allowed is what reading gives, where F tests the token after it

abbrev pub Follows : {A : Type 0} → (Input → A → Input → Type 0) → (TokenClass → Bool) → (TokenClass → Bool) → Type 0
Follows {A} Next after before = (i : Input) (x : A) (j : Input) → Next i x j → IsTrue (after (class_at j)) → IsTrue (before (class_at i))

abbrev pub Decides : (A : Type 0) → G A → (TokenClass → Bool) → Type 0
Decides _ (ret A a) F = Unit {0}
Decides _ (refuse A cause) F = Unit {0}
Decides _ (refuse_at A index cause) F = Unit {0}
Decides _ lookahead F = Unit {0}
Decides _ pass F = Unit {0}
Decides _ (count A step) F = Unit {0}
Decides _ (bind A B p f) F = (M : TokenClass → Bool) × Decides A p M × ((x : A) → Decides B (f x) F × Follows (Derives B (f x)) F M)
Decides _ (separated A first many p room) F = Decides A p (λ q. is_comma q || F q) × ((q : TokenClass) → IsTrue (F q) → is_comma q ≡ false)
    × ((i : Input) (x : A) (j : Input) → Derives A p i x j → tried first i ≡ None)
Decides _ (until S stop step s) F = (M : TokenClass → Bool)
    × ((t : S) → Decides S (step t) M × Follows (Derives S (step t)) M M)
    × ((q : TokenClass) (t : S) → IsTrue (stop q t) → IsTrue (M q))
