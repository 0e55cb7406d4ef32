-- Productions that both readers share, and what a function that reads one ensures.
use Rattle.std.specs.Prelude.{◌≡◌, ℕ, ◌+◌, ◌-◌, ◌*◌, ◌&&◌, nat_lt, nat_le, ◌==◌, Bool, true, false, if◌then◌else◌, List, [], ◌∷◌, ◌++◌, length, position, Option, Some, None, Result, Ok, Err}
use Rattle.std.specs.Str.{bytes_eq}
use Rattle.vsd_grammar.specs.declared.token_class.TokenClass.{TokenClass}
use Rattle.vsd_grammar.specs.declared.token_class.TokenClass.TheVariants as class
use Rattle.vsd_grammar.specs.declared.turn.Turn.{Turn}
use Rattle.vsd_grammar.specs.declared.turn.Turn.TheVariants.{Stop, Pass, Refuse}
use Rattle.vsd_grammar.specs.declared.cause.Cause.{Cause}
use Rattle.vsd_grammar.specs.declared.cause.Cause.TheVariants.{Unexpected, TooMany, TooDeep}
use Rattle.vsd_grammar.specs.declared.cause.Counted.TheVariants as limit
use Rattle.vsd_grammar.specs.declared.syntax_error.Stop.{Stop as Stopped}
use Rattle.vsd_grammar.specs.declared.syntax_error.Stop.TheVariants as stop
use Rattle.vsd_grammar.specs.Input.{Input, State, Lookahead, same_class}
use Rattle.vsd_grammar.specs.Grammar.{G, ret, refuse, refuse_at, lookahead, pass, count, bind, until, Outcome}

-- What a function that reads ensures: the outcome of the reading, unless memory fails. `view` gives the value
-- of which the grammar speaks.
abbrev pub ReadsBy : {A B : Type 0} → (B → A) → Outcome A → Result B Stopped → Input → Type 0
ReadsBy view outcome (Ok x) new = outcome ≡ Ok (view x, new)
ReadsBy view outcome (Err stop.Memory) new = Unit {0}
ReadsBy view outcome (Err (stop.Refused r)) new = outcome ≡ Err r

abbrev pub Reads : {A : Type 0} → Outcome A → Result A Stopped → Input → Type 0
Reads {A} outcome result new = ReadsBy {A = A} {B = A} (λ x. x) outcome result new

-- a token of this class
abbrev pub expected : Bool → G (Unit {0})
expected true = pass
expected false = refuse (Unit {0}) Unexpected

unfoldable pub expect : TokenClass → G (Unit {0})
expect wanted = bind Lookahead (Unit {0}) lookahead (λ h. expected (same_class wanted h.class))

-- a token of this class, which isn't passed over
abbrev pub required : Bool → G (Unit {0})
required true = ret (Unit {0}) tt
required false = refuse (Unit {0}) Unexpected

unfoldable pub must_see : TokenClass → G (Unit {0})
must_see wanted = bind Lookahead (Unit {0}) lookahead (λ h. required (same_class wanted h.class))

-- passes over a token of this class, if it is at hand, and tells whether it was
abbrev pub eaten : Bool → G Bool
eaten true = bind (Unit {0}) Bool pass (λ _. ret Bool true)
eaten false = ret Bool false

unfoldable pub eat : TokenClass → G Bool
eat wanted = bind Lookahead Bool lookahead (λ h. eaten (same_class wanted h.class))

-- ---- counts

-- the most nodes of a written term
abbrev pub most_nodes : ℕ
most_nodes = 64

abbrev pub with_nodes : State → ℕ → State
with_nodes s n = record s { nodes = n }

-- a term begins
unfoldable pub no_nodes : G (Unit {0})
no_nodes = count (Unit {0}) (λ s. Ok (tt, with_nodes s 0))

-- one more node of the term in hand, which the token at hand names
unfoldable pub node : G (Unit {0})
node = count (Unit {0}) (λ s. if nat_lt s.nodes most_nodes then Ok (tt, with_nodes s (s.nodes + 1)) else Err TooDeep)

-- one more node, which the token of this index names: it is refused once a later token is at hand
abbrev pub node_counted : ℕ → Bool → G (Unit {0})
node_counted index true = ret (Unit {0}) tt
node_counted index false = refuse_at (Unit {0}) index TooDeep

unfoldable pub node_at : ℕ → G (Unit {0})
node_at index = bind Bool (Unit {0})
    (count Bool (λ s. if nat_lt s.nodes most_nodes then Ok (true, with_nodes s (s.nodes + 1)) else Ok (false, s))) (node_counted index)

-- the most names that have a number
abbrev pub most_names : ℕ
most_names = 2048

-- the number that a name has, or a new one
abbrev pub number_by : List ℕ → State → Option ℕ → Result (ℕ × State) Cause
number_by name s (Some n) = Ok (n, s)
number_by name s None = if nat_lt (length s.names) most_names then Ok (length s.names, record s { names = s.names ++ name ∷ [] })
    else Err (TooMany limit.Names)

unfoldable pub number : List ℕ → G ℕ
number name = count ℕ (λ s. number_by name s (position (bytes_eq name) s.names))

-- the value, or a refusal of the token at hand
abbrev pub checked : (A : Type 0) → Result A Cause → G A
checked A (Ok a) = ret A a
checked A (Err cause) = refuse A cause

-- ---- scans

-- a step of a scan at the token at hand
abbrev pub scan_step : (S : Type 0) → Turn S → G S
scan_step S (Pass s) = bind (Unit {0}) S pass (λ _. ret S s)
scan_step S (Refuse cause) = refuse S cause
scan_step S Stop = refuse S Unexpected

abbrev pub is_stop : {S : Type 0} → Turn S → Bool
is_stop Stop = true
is_stop _ = false

-- tokens one by one, each passed over as its turn says, up to one at which it says to stop
unfoldable pub scan : (S : Type 0) → (TokenClass → S → Turn S) → S → G S
scan S turn = until S (λ q s. is_stop (turn q s)) (λ s. bind Lookahead S lookahead (λ h. scan_step S (turn h.class s)))

-- ---- names

-- the most bytes of a name
abbrev pub most_bytes : ℕ
most_bytes = 255

-- A Word that doesn't begin with a point, or a Quoted token. A word of the grammar is one too, where it is none at its place.
abbrev pub is_name : TokenClass → Bool
is_name (class.Word k) = true
is_name class.Quoted = true
is_name _ = false

abbrev pub name_by : Bool → List ℕ → Result (List ℕ) Cause
name_by false bytes = Err Unexpected
name_by true bytes = if length bytes == 0 then Err Unexpected
    else (if nat_lt most_bytes (length bytes) then Err (TooMany limit.NameBytes) else Ok bytes)

-- the bytes of the name at hand, which isn't passed over
unfoldable pub spelled_name : G (List ℕ)
spelled_name = bind Lookahead (List ℕ) lookahead (λ h. checked (List ℕ) (name_by (is_name h.class) h.bytes))

-- the value, after the token at hand
abbrev pub then_pass : (A : Type 0) → A → G A
then_pass A a = bind (Unit {0}) A pass (λ _. ret A a)

unfoldable pub name : G (List ℕ)
name = bind (List ℕ) (List ℕ) spelled_name (λ bytes. then_pass (List ℕ) bytes)

-- the number of a name
unfoldable pub numbered_name : G ℕ
numbered_name = bind (List ℕ) ℕ spelled_name (λ bytes. bind ℕ ℕ (number bytes) (λ n. then_pass ℕ n))

-- { Word }, where no Word begins with a point
abbrev pub plain_turn : TokenClass → Unit {0} → Turn (Unit {0})
plain_turn (class.Word k) s = Pass s
plain_turn _ s = Stop

unfoldable pub plain_words : G (Unit {0})
plain_words = scan (Unit {0}) plain_turn tt

-- ---- numbers

abbrev pub is_digit : ℕ → Bool
is_digit b = nat_le 48 b && nat_le b 57

-- the number whose decimal digits are those of a number before and these, and none where a byte is no digit
abbrev pub digits_from : ℕ → List ℕ → Option ℕ
digits_from n [] = Some n
digits_from n (b ∷ bs) = if is_digit b then digits_from (10 * n + (b - 48)) bs else None

abbrev pub in_range : ℕ → ℕ → Option ℕ → Result ℕ Cause
in_range low high None = Err Unexpected
in_range low high (Some n) = if nat_le low n && nat_le n high then Ok n else Err Unexpected

abbrev pub number_of : Bool → ℕ → ℕ → ℕ → List ℕ → Result ℕ Cause
number_of false low high most bytes = Err Unexpected
number_of true low high most bytes = if nat_lt most (length bytes) then Err Unexpected else in_range low high (digits_from 0 bytes)

-- the number at hand, which isn't passed over: in this range, and with at most so many decimal digits
unfoldable pub spelled_number : ℕ → ℕ → ℕ → G ℕ
spelled_number low high most = bind Lookahead ℕ lookahead (λ h. checked ℕ (number_of (same_class class.Number h.class) low high most h.bytes))
