-- The laws that hold of every grammar.
use Rattle.std.specs.Prelude.{◌≡◌, ℕ, ◌+◌, ◌≤◌, Bool, true, IsTrue, List, length, Result, Ok, Err, IfOk, MatchResult, IfSome, slice_get}
use Rattle.vsd_grammar.specs.declared.token_class.TokenClass.{TokenClass}
use Rattle.vsd_grammar.specs.declared.cause.Cause.{Cause}
use Rattle.vsd_grammar.specs.declared.cause.Cause.TheVariants.{Unexpected}
use Rattle.vsd_grammar.specs.declared.syntax_error.SyntaxError.{SyntaxError}
use Rattle.vsd_grammar.specs.declared.syntax_error.Stop.{Stop}
use Rattle.vsd_grammar.specs.declared.syntax_error.Stop.TheVariants as stop
use Rattle.vsd_grammar.specs.Input.{Seen, Input, State, class_at, left}
use Rattle.vsd_grammar.specs.Grammar.{G, ret, refuse, refuse_at, lookahead, pass, count, bind, separated, until, run, Derives}
use Rattle.vsd_grammar.specs.Productions.{Reads}

-- the two lists have the same tokens up to and with this index, or the same end
abbrev pub SameUpTo : ℕ → List Seen → List Seen → Type 0
SameUpTo n xs ys = (k : ℕ) → k ≤ n → slice_get xs k ≡ slice_get ys k

-- the same place in another list
abbrev pub over : List Seen → Input → Input
over ys i = record i { all = ys }

-- What is read is allowed.
abbrev pub IsSound : (A : Type 0) → G A → Type 0
IsSound A g = (i : Input) (x : A) (j : Input) → run A g i ≡ Ok (x, j) → Derives A g i x j

-- What is allowed before a token that F accepts is what is read.
abbrev pub IsComplete : (A : Type 0) → G A → (TokenClass → Bool) → Type 0
IsComplete A g F = (i : Input) (x : A) (j : Input) → Derives A g i x j → IsTrue (F (class_at j)) → run A g i ≡ Ok (x, j)

-- A reading looks at no token beyond the one where it ends, and a refusal at none beyond the one that decided it.
abbrev pub KeepsReading : (A : Type 0) → G A → Type 0
KeepsReading A g = (i : Input) (x : A) (j : Input) (ys : List Seen) → run A g i ≡ Ok (x, j) → SameUpTo j.at i.all ys
    → run A g (over ys i) ≡ Ok (x, over ys j)

abbrev pub KeepsRefusal : (A : Type 0) → G A → Type 0
KeepsRefusal A g = (i : Input) (r : SyntaxError) (ys : List Seen) → run A g i ≡ Err r → SameUpTo r.by i.all ys
    → run A g (over ys i) ≡ Err r

-- A refusal stands at a token that isn't after the one that decided it, and that one is in the list, or its end.
abbrev pub StandsInList : (A : Type 0) → G A → Type 0
StandsInList A g = (i : Input) (r : SyntaxError) → i.at ≤ length i.all → run A g i ≡ Err r → (r.at ≤ r.by) × (i.at ≤ r.by) × (r.by ≤ length i.all)

-- Each cause that stands in the production passes the test, and each step of the counts keeps to the relation. A token
-- is unexpected wherever one is passed over.
abbrev pub Behaves : (Cause → Bool) → (State → State → Bool) → (A : Type 0) → G A → Type 0
Behaves test keeps _ (ret A a) = Unit {0}
Behaves test keeps _ (refuse A cause) = IsTrue (test cause)
Behaves test keeps _ (refuse_at A index cause) = IsTrue (test cause)
Behaves test keeps _ lookahead = Unit {0}
Behaves test keeps _ pass = IsTrue (test Unexpected)
Behaves test keeps _ (count A step) = (s : State) → MatchResult (step s) (λ r. IsTrue (keeps s r.1)) (λ cause. IsTrue (test cause))
Behaves test keeps _ (bind A B p f) = Behaves test keeps A p × ((x : A) → Behaves test keeps B (f x))
Behaves test keeps _ (separated A first many p room) =
    Behaves test keeps A p × IsTrue (test many) × ((q : TokenClass) (b : List ℕ) → IfSome (first q b) (λ cause. IsTrue (test cause)))
Behaves test keeps _ (until S stop step s) = IsTrue (test Unexpected) × ((t : S) → Behaves test keeps S (step t))

abbrev pub any_step : State → State → Bool
any_step s t = true

abbrev pub any_cause : Cause → Bool
any_cause cause = true

abbrev pub CausesPass : (Cause → Bool) → (A : Type 0) → G A → Type 0
CausesPass test A g = Behaves test any_step A g

-- If each cause in a production passes a test, so does that of each refusal.
abbrev pub KeepsCauses : (A : Type 0) → G A → Type 0
KeepsCauses A g = (test : Cause → Bool) (i : Input) (r : SyntaxError) → CausesPass test A g → run A g i ≡ Err r → IsTrue (test r.cause)

-- What each step of the counts keeps to, the whole of a production keeps to.
abbrev pub KeepsCounts : (A : Type 0) → G A → Type 0
KeepsCounts A g = (keeps : State → State → Bool) → ((s : State) → IsTrue (keeps s s)) → ((s t u : State) → IsTrue (keeps s t) → IsTrue (keeps t u) → IsTrue (keeps s u))
    → Behaves any_cause keeps A g → (i : Input) (x : A) (j : Input) → Derives A g i x j → IsTrue (keeps i.state j.state)

-- A reading goes forward in its list.
abbrev pub GoesForward : (A : Type 0) → G A → Type 0
GoesForward A g = (i : Input) (x : A) (j : Input) → run A g i ≡ Ok (x, j) → (i.at ≤ j.at) × (j.at ≤ i.at + left i) × (j.all ≡ i.all)

-- After a refusal no list that is the same up to and with the token that decided it is allowed before a token that F accepts.
abbrev pub IsDead : (A : Type 0) → G A → (TokenClass → Bool) → Type 0
IsDead A g F = (i : Input) (r : SyntaxError) (ys : List Seen) (x : A) (j : Input) → run A g i ≡ Err r → SameUpTo r.by i.all ys
    → Derives A g (over ys i) x j → IsTrue (F (class_at j)) → ⊥

-- ---- what a reader says of its result, where `view` gives the value of which the grammar speaks

-- What is answered is what the production allows from the place i.
abbrev pub Found : {B : Type 0} (A : Type 0) → G A → (B → A) → Input → Result B Stop → Input → Type 0
Found A g view i result j = IfOk result (λ x. Derives A g i (view x) j)

-- Whatever the production allows from there, before a token that F accepts, is what is answered, unless memory fails.
abbrev pub IsAnswer : {A B : Type 0} → (B → A) → A → Input → Result B Stop → Input → Type 0
IsAnswer view y k (Ok x) j = (y ≡ view x) × (k ≡ j)
IsAnswer view y k (Err stop.Memory) j = Unit {0}
IsAnswer view y k (Err (stop.Refused r)) j = ⊥

abbrev pub Only : {B : Type 0} (A : Type 0) → G A → (TokenClass → Bool) → (B → A) → Input → Result B Stop → Input → Type 0
Only A g F view i result j = (y : A) (k : Input) → Derives A g i y k → IsTrue (F (class_at k)) → IsAnswer view y k result j

-- After a refusal no list that is the same up to and with the token that decided it is allowed.
abbrev pub NoOther : (A : Type 0) → G A → (TokenClass → Bool) → Input → SyntaxError → Type 0
NoOther A g F i r = (ys : List Seen) (x : A) (j : Input) → SameUpTo r.by i.all ys → Derives A g (over ys i) x j → IsTrue (F (class_at j)) → ⊥

abbrev pub Dead : {B : Type 0} (A : Type 0) → G A → (TokenClass → Bool) → Input → Result B Stop → Type 0
Dead A g F i (Ok x) = Unit {0}
Dead A g F i (Err stop.Memory) = Unit {0}
Dead A g F i (Err (stop.Refused r)) = NoOther A g F i r

-- A function that reads a production, whatever parameters that has, finds what it allows, all of it, and refuses for good.
abbrev pub IsReader : (A : Type 0) → G A → (TokenClass → Bool) → Type 0
IsReader A g F = (i j : Input) (result : Result A Stop) → Reads (run A g i) result j
    → Found A g (λ x. x) i result j × Only A g F (λ x. x) i result j × Dead A g F i result

-- At most one value and place are allowed before a token that F accepts.
abbrev pub IsUnambiguous : (A : Type 0) → G A → (TokenClass → Bool) → Type 0
IsUnambiguous A g F = (i : Input) (x y : A) (j k : Input) → Derives A g i x j → Derives A g i y k
    → IsTrue (F (class_at j)) → IsTrue (F (class_at k)) → (x ≡ y) × (j ≡ k)
