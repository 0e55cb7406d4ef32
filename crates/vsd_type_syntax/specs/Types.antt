-- The productions of types, over what differs between declarations and scripts.
use Rattle.std.specs.Prelude.{ℕ, zero, suc, Bool, true, false, if◌then◌else◌, ◌==◌, List, [], length, Option, Some, None, Result}
use Rattle.vsd_terms.specs.declared.term.Term.{Term}
use Rattle.vsd_terms.specs.declared.term.Term.TheVariants as term
use Rattle.vsd_terms.specs.declared.term.Builtin.{Builtin}
use Rattle.vsd_grammar.specs.declared.token_class.TokenClass.{TokenClass}
use Rattle.vsd_grammar.specs.declared.token_class.TokenClass.TheVariants as class
use Rattle.vsd_grammar.specs.declared.cause.Cause.{Cause}
use Rattle.vsd_grammar.specs.declared.cause.Cause.TheVariants.{Unexpected, Unsupported, TooDeep}
use Rattle.vsd_grammar.specs.declared.cause.Form.{Form}
use Rattle.vsd_grammar.specs.declared.cause.Form.TheVariants as form
use Rattle.vsd_grammar.specs.Input.{State, Lookahead, same_class}
use Rattle.vsd_grammar.specs.Grammar.{G, ret, refuse, refuse_at, lookahead, pass, count, bind, separated}
use Rattle.vsd_grammar.specs.Productions.{expect, must_see, no_nodes, node, node_at, most_nodes, spelled_name, name, then_pass, is_name}
use Rattle.vsd_type_syntax.specs.declared.starts.Start.{Start}
use Rattle.vsd_type_syntax.specs.declared.starts.Start.TheVariants as start
use Rattle.vsd_type_syntax.specs.declared.starts.Special.{Special}
use Rattle.vsd_type_syntax.specs.declared.starts.Special.TheVariants as special
use Rattle.vsd_type_syntax.specs.Starts.{start_at, unsigned_of, special_of, suffix_of}

-- What differs between the readers.
pub record Rules : Type 0 where
  -- the number of a name that is not built in, or why it is refused
  pub resolve : List ℕ → State → Result (ℕ × State) Cause
  -- why a name after a scope is refused that is not built in, and not empty
  pub foreign : List ℕ → Cause
  -- whether `!` may begin a type
  pub has_parameters : Bool
  -- the place of the parameter that a token of this class, with these bytes, names after `!`
  pub parameter : TokenClass → List ℕ → Option ℕ
  -- why so many arguments are refused of the type with this number
  pub arity : ℕ → ℕ → Option Cause

abbrev pub less : TokenClass
less = class.Symbol 60

abbrev pub greater : TokenClass
greater = class.Symbol 62

abbrev pub slash : TokenClass
slash = class.Symbol 47

abbrev pub bang : TokenClass
bang = class.Symbol 33

abbrev pub left_bracket : TokenClass
left_bracket = class.Symbol 91

abbrev pub right_bracket : TokenClass
right_bracket = class.Symbol 93

-- no refusal, or one that stands at an earlier token
abbrev pub shown_at : ℕ → Option Cause → G (Unit {0})
shown_at index None = ret (Unit {0}) tt
shown_at index (Some cause) = refuse_at (Unit {0}) index cause

-- no name of a nested class goes on here
abbrev pub not_nested : Bool → G (Unit {0})
not_nested true = refuse (Unit {0}) (Unsupported form.Nested)
not_nested false = ret (Unit {0}) tt

unfoldable pub unnested : Term → G Term
unnested t = bind Lookahead Term lookahead (λ g. bind (Unit {0}) Term (not_nested (same_class slash g.class)) (λ _. ret Term t))

-- a built-in type, by its word
unfoldable pub builtin_word : Builtin → G Term
builtin_word b = bind (Unit {0}) Term node (λ _. then_pass Term (term.Builtin b))

-- a built-in type, by its name
unfoldable pub builtin_name : Builtin → G Term
builtin_name b = bind Term Term (builtin_word b) unnested

-- `unsigned` and a word of a signed type
abbrev pub unsigned_by : Option Builtin → G Term
unsigned_by None = refuse Term Unexpected
unsigned_by (Some b) = builtin_word b

unfoldable pub unsigned : G Term
unsigned = bind (Unit {0}) Term pass (λ _. bind Lookahead Term lookahead (λ g. unsigned_by (unsigned_of g.class)))

-- `!` and a parameter
abbrev pub parameter_by : Option ℕ → G Term
parameter_by None = refuse Term Unexpected
parameter_by (Some place) = bind (Unit {0}) Term node (λ _. then_pass Term (term.Param place))

abbrev pub parameter_at : Rules → Bool → Lookahead → G Term
parameter_at rules true g = refuse Term (Unsupported form.GenericMethod)
parameter_at rules false g = parameter_by (rules.parameter g.class g.bytes)

abbrev pub parameter_if : Rules → Bool → G Term
parameter_if rules false = refuse Term Unexpected
parameter_if rules true = bind (Unit {0}) Term pass (λ _. bind Lookahead Term lookahead (λ g. parameter_at rules (same_class bang g.class) g))

unfoldable pub parameter : Rules → G Term
parameter rules = parameter_if rules rules.has_parameters

-- A type that is named: `more` is read where a `<` stands after its name, whose index and number it is given.
unfoldable pub bare : Rules → ℕ → ℕ → G Term
bare rules index number = bind (Unit {0}) Term (shown_at index (rules.arity number 0)) (λ _.
    bind (Unit {0}) Term (node_at index) (λ _. unnested (term.Named number [])))

abbrev pub after_name_by : Rules → (ℕ → ℕ → G Term) → ℕ → ℕ → Bool → G Term
after_name_by rules more index number true = more index number
after_name_by rules more index number false = bare rules index number

unfoldable pub after_name : Rules → (ℕ → ℕ → G Term) → ℕ → ℕ → G Term
after_name rules more index number = bind Lookahead Term lookahead (λ g. after_name_by rules more index number (same_class less g.class))

unfoldable pub resolved_name : Rules → (ℕ → ℕ → G Term) → ℕ → G Term
resolved_name rules more index = bind (List ℕ) Term spelled_name (λ bytes.
    bind ℕ Term (count ℕ (rules.resolve bytes)) (λ number. bind (Unit {0}) Term pass (λ _. after_name rules more index number)))

-- why a name after a scope is refused: an empty one is none, and any other is not of this text
abbrev pub scoped_cause : Rules → List ℕ → Cause
scoped_cause rules bytes = if length bytes == 0 then Unexpected else rules.foreign bytes

-- a name that is not built in, after a scope or not
abbrev pub other_name : Rules → (ℕ → ℕ → G Term) → Bool → Lookahead → G Term
other_name rules more true h = refuse Term (scoped_cause rules h.bytes)
other_name rules more false h = resolved_name rules more h.index

abbrev pub named_by : Rules → (ℕ → ℕ → G Term) → Bool → Lookahead → Special → G Term
named_by rules more scoped h (special.Builtin b) = builtin_name b
named_by rules more scoped h (special.Refused f) = refuse Term (Unsupported f)
named_by rules more scoped h special.Nothing = other_name rules more scoped h

abbrev pub named_if : Rules → (ℕ → ℕ → G Term) → Bool → Lookahead → Bool → G Term
named_if rules more scoped h false = refuse Term Unexpected
named_if rules more scoped h true = named_by rules more scoped h (special_of h.bytes)

unfoldable pub named : Rules → (ℕ → ℕ → G Term) → Bool → G Term
named rules more scoped = bind Lookahead Term lookahead (λ h. named_if rules more scoped h (is_name h.class))

-- a name and `]`, after a `[`, before the name of a type
unfoldable pub bracketed : Rules → (ℕ → ℕ → G Term) → G Term
bracketed rules more = bind (List ℕ) Term name (λ _. bind (Unit {0}) Term (expect right_bracket) (λ _. named rules more true))

-- `[`, a name and `]` before the name of a type
unfoldable pub scoped : Rules → (ℕ → ℕ → G Term) → G Term
scoped rules more = bind (Unit {0}) Term pass (λ _. bracketed rules more)

abbrev pub keyworded_by : Rules → (ℕ → ℕ → G Term) → Bool → G Term
keyworded_by rules more true = scoped rules more
keyworded_by rules more false = named rules more false

-- `class` or `valuetype` before a type that is named
unfoldable pub keyworded : Rules → (ℕ → ℕ → G Term) → G Term
keyworded rules more = bind (Unit {0}) Term pass (λ _. bind Lookahead Term lookahead (λ g. keyworded_by rules more (same_class left_bracket g.class)))

abbrev pub started : Rules → (ℕ → ℕ → G Term) → Start → G Term
started rules more start.Parameter = parameter rules
started rules more start.Keyworded = keyworded rules more
started rules more start.Scope = scoped rules more
started rules more (start.Builtin b) = builtin_word b
started rules more start.Unsigned = unsigned
started rules more start.Name = named rules more false
started rules more (start.Refused cause) = refuse Term cause

-- no form that isn't supported goes on after a type
abbrev pub suffixed_by : Term → Option Form → G Term
suffixed_by t None = ret Term t
suffixed_by t (Some f) = refuse Term (Unsupported f)

unfoldable pub suffixed : Term → G Term
suffixed t = bind Lookahead Term lookahead (λ g. suffixed_by t (suffix_of g.class))

-- a type, or a named one alone
unfoldable pub type_by : Rules → (ℕ → ℕ → G Term) → Bool → G Term
type_by rules more only_named = bind Lookahead Term lookahead (λ h. bind Term Term (started rules more (start_at only_named h.class)) suffixed)

-- `<`, types with commas between, and `>`
unfoldable pub closed : Rules → ℕ → ℕ → List Term → G Term
closed rules index number args = bind (Unit {0}) Term (must_see greater) (λ _.
    bind (Unit {0}) Term (shown_at index (rules.arity number (length args))) (λ _. then_pass Term (term.Named number args)))

-- any token may begin an argument, as far as a list of them is concerned
abbrev pub any_first : TokenClass → List ℕ → Option Cause
any_first q bytes = None

unfoldable pub arguments : Rules → G Term → ℕ → ℕ → G Term
arguments rules argument index number = bind (Unit {0}) Term (node_at index) (λ _. bind (Unit {0}) Term pass (λ _.
    bind (List Term) Term (separated Term any_first TooDeep argument most_nodes) (λ args. closed rules index number args)))

-- no further level is left
unfoldable pub no_arguments : ℕ → ℕ → G Term
no_arguments index number = bind (Unit {0}) Term (node_at index) (λ _. refuse Term TooDeep)

-- a type with at most so many levels below its own
unfoldable pub type_of : Rules → ℕ → Bool → G Term
type_of rules zero only_named = type_by rules no_arguments only_named
type_of rules (suc room) only_named = type_by rules (arguments rules (type_of rules room false)) only_named

-- what a `<` after a type's name begins, where so many levels are left for its arguments, or none
abbrev pub more_of : Rules → Option ℕ → ℕ → ℕ → G Term
more_of rules None = no_arguments
more_of rules (Some room) = arguments rules (type_of rules room false)

-- the most levels below that of a written term
abbrev pub most_below : ℕ
most_below = 15

-- a written term
unfoldable pub written : Rules → Bool → G Term
written rules only_named = bind (Unit {0}) Term no_nodes (λ _. type_of rules most_below only_named)

-- a written term whose first token, a `[`, was passed over already
unfoldable pub written_rest : Rules → G Term
written_rest rules = bind (Unit {0}) Term no_nodes (λ _. bind Term Term (bracketed rules (more_of rules (Some 14))) suffixed)

-- the form that a token after a type shows where a `[` may stand
abbrev pub open_suffix_by : Bool → TokenClass → Option Form
open_suffix_by true q = None
open_suffix_by false q = suffix_of q

unfoldable pub suffixed_open : Term → G Term
suffixed_open t = bind Lookahead Term lookahead (λ g. suffixed_by t (open_suffix_by (same_class left_bracket g.class) g.class))

-- the outermost type of a written term, without what may stand after it
unfoldable pub outermost : Rules → G Term
outermost rules = bind Lookahead Term lookahead (λ h. started rules (more_of rules (Some 14)) (start_at false h.class))

-- a written term that a `[` may follow
unfoldable pub written_open : Rules → G Term
written_open rules = bind (Unit {0}) Term no_nodes (λ _. bind Term Term (outermost rules) suffixed_open)

-- why a token is refused that can't begin a type, or a named one alone
abbrev pub name_cause : Bool → Special → Option Cause
name_cause empty (special.Builtin b) = None
name_cause empty (special.Refused f) = Some (Unsupported f)
name_cause empty special.Nothing = if empty then Some Unexpected else None

abbrev pub start_cause : Start → List ℕ → Option Cause
start_cause (start.Refused cause) bytes = Some cause
start_cause start.Name bytes = name_cause (length bytes == 0) (special_of bytes)
start_cause _ bytes = None

unfoldable pub first_cause : Bool → TokenClass → List ℕ → Option Cause
first_cause only_named q bytes = start_cause (start_at only_named q) bytes
