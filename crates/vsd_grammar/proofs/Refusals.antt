-- What each refusal of a production has, by one walk over the data.
use Rattle.std.proofs.Common.{ℕ, zero, suc, min, Bool, true, false, cond, ltb, List, ◌∷◌, IsTrue, Option, Some, None, Result, Ok, Err, MatchResult, IfSome, refl}
use Rattle.vsd_grammar.specs.declared.token_class.TokenClass.{TokenClass}
use Rattle.vsd_grammar.specs.declared.cause.Cause.{Cause}
use Rattle.vsd_grammar.specs.declared.cause.Cause.TheVariants.{Unexpected}
use Rattle.vsd_grammar.specs.declared.syntax_error.SyntaxError.{SyntaxError}
use Rattle.vsd_grammar.specs.Input.{Input, State, class_at, bytes_at, next, left, is_end, is_comma}
use Rattle.vsd_grammar.specs.Grammar.{G, ret, refuse, refuse_at, lookahead, pass, count, bind, separated, until, Outcome, and_then, counted, tested, tried, surplus, after_item, after_turn, syntax_error, items, turns, run}
use Rattle.vsd_grammar.specs.Laws.{CausesPass, Behaves, any_step, any_cause}

-- an outcome that is no refusal, or one of which this holds
abbrev pub Holds : {A : Type 0} → (SyntaxError → Type 0) → Outcome A → Type 0
Holds P (Ok r) = Unit {0}
Holds P (Err e) = P e

abbrev pub Passes : (Cause → Bool) → Option Cause → Type 0
Passes test c = IfSome c (λ cause. IsTrue (test cause))

module _ (test : Cause → Bool) (keeps : State → State → Bool) (P : SyntaxError → Type 0) (here : (i : Input) (cause : Cause) → IsTrue (test cause) → P (syntax_error i cause))
    (earlier : (index : ℕ) (i : Input) (cause : Cause) → IsTrue (test cause) → P (record { at = min index i.at; by = i.at; cause = cause })) where
  holds_then : {A B : Type 0} (o : Outcome A) (f : A → Input → Outcome B) → Holds P o → ((x : A) (k : Input) → Holds P (f x k)) → Holds P (and_then o f)
  holds_then (Ok r) f h more = more r.0 r.1
  holds_then (Err e) f h more = h

  holds_cond : {A : Type 0} (b : Bool) (o p : Outcome A) → Holds P o → Holds P p → Holds P (cond b o p)
  holds_cond true o p h k = h
  holds_cond false o p h k = k

  holds_counted : {A : Type 0} (i : Input) (r : Result (A × State) Cause) → MatchResult r (λ v. IsTrue (keeps i.state v.1)) (λ cause. IsTrue (test cause)) → Holds P (counted i r)
  holds_counted i (Ok r) h = tt
  holds_counted i (Err cause) h = here i cause h

  holds_tested : {A : Type 0} (c : Option Cause) (i : Input) (o : Outcome A) → Passes test c → Holds P o → Holds P (tested c i o)
  holds_tested None i o c h = h
  holds_tested (Some cause) i o c h = here i cause c

  surplus_passes : (c : Option Cause) (many : Cause) → Passes test c → IsTrue (test many) → IsTrue (test (surplus c many))
  surplus_passes None many c h = h
  surplus_passes (Some cause) many c h = c

  holds_after_item : {A : Type 0} (x : A) (b : Bool) (k : Input) (o : Outcome (List A)) → Holds P o → Holds P (after_item x b k o)
  holds_after_item x true k o h = holds_then o (λ xs j. Ok (x ∷ xs, j)) h (λ xs j. tt)
  holds_after_item x false k o h = tt

  holds_items : {A : Type 0} (first : TokenClass → List ℕ → Option Cause) (many : Cause) (item : Input → Outcome A) → ((i : Input) → Holds P (item i)) → IsTrue (test many)
      → ((q : TokenClass) (b : List ℕ) → Passes test (first q b)) → (room : ℕ) (i : Input) → Holds P (items first many item room i)
  unfolding items
  holds_items first many item h m f zero i = here i (surplus (tried first i) many) (surplus_passes (tried first i) many (f (class_at i) (bytes_at i)) m)
  holds_items first many item h m f (suc room) i =
      holds_then (tested (tried first i) i (item i)) (λ x k. after_item x (is_comma (class_at k)) k (items first many item room (next k)))
      (holds_tested (tried first i) i (item i) (f (class_at i) (bytes_at i)) (h i))
      (λ x k. holds_after_item x (is_comma (class_at k)) k (items first many item room (next k)) (holds_items first many item h m f room (next k)))

  holds_after_turn : {S : Type 0} (b : Bool) (k : Input) (o : Outcome S) → IsTrue (test Unexpected) → Holds P o → Holds P (after_turn b k o)
  holds_after_turn true k o u h = h
  holds_after_turn false k o u h = here k Unexpected u

  holds_turns : {S : Type 0} (stop : TokenClass → S → Bool) (step : S → Input → Outcome S) → ((s : S) (i : Input) → Holds P (step s i)) → IsTrue (test Unexpected)
      → (n : ℕ) (s : S) (i : Input) → Holds P (turns stop step n s i)
  unfolding turns
  holds_turns stop step h u zero s i = here i Unexpected u
  holds_turns stop step h u (suc n) s i = holds_cond (stop (class_at i) s) (Ok (s, i)) (and_then (step s i) (λ t k. after_turn (ltb i.at k.at) k (turns stop step n t k))) tt
      (holds_then (step s i) (λ t k. after_turn (ltb i.at k.at) k (turns stop step n t k)) (h s i)
      (λ t k. holds_after_turn (ltb i.at k.at) k (turns stop step n t k) u (holds_turns stop step h u n t k)))

  pub holds : (A : Type 0) (g : G A) (i : Input) → Behaves test keeps A g → Holds P (run A g i)
  holds _ (ret A a) i c = tt
  holds _ (refuse A cause) i c = here i cause c
  holds _ (refuse_at A index cause) i c = earlier index i cause c
  holds _ lookahead i c = tt
  holds _ pass i c = holds_cond (is_end (class_at i)) (Err (syntax_error i Unexpected)) (Ok (tt {0}, next i)) (here i Unexpected c) tt
  holds _ (count A step) i c = holds_counted i (step i.state) (c i.state)
  holds _ (bind A B p f) i c = holds_then (run A p i) (λ x k. run B (f x) k) (holds A p i c.0) (λ x k. holds B (f x) k (c.1 x))
  holds _ (separated A first many p room) i c = holds_items first many (run A p) (λ k. holds A p k c.0) c.1 c.2 room i
  holds _ (until S stop step s) i c = holds_turns stop (λ t. run S (step t)) (λ t k. holds S (step t) k (c.1 t)) c.0 (suc (left i)) s i

-- ---- each cause passes the test that all pass

all_counted : {A : Type 0} (s : State) (r : Result (A × State) Cause) → MatchResult r (λ v. IsTrue (any_step s v.1)) (λ cause. IsTrue (any_cause cause))
all_counted s (Ok r) = refl
all_counted s (Err cause) = refl

all_tested : (c : Option Cause) → Passes any_cause c
all_tested None = tt
all_tested (Some cause) = refl

pub all_pass : (A : Type 0) (g : G A) → CausesPass any_cause A g
all_pass _ (ret A a) = tt
all_pass _ (refuse A cause) = refl
all_pass _ (refuse_at A index cause) = refl
all_pass _ lookahead = tt
all_pass _ pass = refl
all_pass _ (count A step) = λ s. all_counted s (step s)
all_pass _ (bind A B p f) = (all_pass A p, λ x. all_pass B (f x))
all_pass _ (separated A first many p room) = (all_pass A p, refl, λ q b. all_tested (first q b))
all_pass _ (until S stop step s) = (refl, λ t. all_pass S (step t))
