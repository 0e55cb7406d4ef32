-- Signatures: the call form, the result and the arguments of a method.
use Rattle.std.specs.Prelude.{ℕ, Bool, true, false, if◌then◌else◌, List, [], ◌∷◌, Option, Some, None}
use Rattle.vsd_terms.specs.declared.term.Term.{Term}
use Rattle.vsd_grammar.specs.declared.keyword.Keyword.{Keyword}
use Rattle.vsd_grammar.specs.declared.keyword.Keyword.TheVariants as key
use Rattle.vsd_grammar.specs.declared.token_class.TokenClass.{TokenClass}
use Rattle.vsd_grammar.specs.declared.token_class.TokenClass.TheVariants as class
use Rattle.vsd_grammar.specs.declared.turn.Turn.{Turn}
use Rattle.vsd_grammar.specs.declared.turn.Turn.TheVariants.{Stop, Pass, Refuse}
use Rattle.vsd_grammar.specs.declared.cause.Cause.{Cause}
use Rattle.vsd_grammar.specs.declared.cause.Cause.TheVariants.{Unexpected, Unsupported, TooMany}
use Rattle.vsd_grammar.specs.declared.cause.Form.TheVariants as form
use Rattle.vsd_grammar.specs.declared.cause.Counted.TheVariants as limit
use Rattle.vsd_grammar.specs.Input.{Lookahead, same_class}
use Rattle.vsd_grammar.specs.Grammar.{G, ret, refuse, lookahead, pass, bind, separated}
use Rattle.vsd_grammar.specs.Productions.{expect, eat, scan, is_name, name}
use Rattle.vsd_type_syntax.specs.Types.{Rules, written, written_rest, first_cause, left_bracket, right_bracket}
use Rattle.vsd_decl_syntax.specs.declared.arguments.Marks.{Marks}
use Rattle.vsd_decl_syntax.specs.declared.arguments.Marks.TheVariants as marks

abbrev pub word : Keyword → TokenClass
word k = class.Word k

abbrev pub left_paren : TokenClass
left_paren = class.Symbol 40

abbrev pub right_paren : TokenClass
right_paren = class.Symbol 41

-- ---- the call form

abbrev pub not_vararg : Bool → G (Unit {0})
not_vararg true = refuse (Unit {0}) (Unsupported form.Vararg)
not_vararg false = ret (Unit {0}) tt

unfoldable pub no_vararg : G (Unit {0})
no_vararg = bind Lookahead (Unit {0}) lookahead (λ h. not_vararg (same_class (word key.Vararg) h.class))

-- [ "instance" ]
unfoldable pub instance : G (Unit {0})
instance = bind Bool (Unit {0}) (eat (word key.Instance)) (λ _. no_vararg)

-- [ "instance" ] [ "default" ]
unfoldable pub call_form : G (Unit {0})
call_form = bind Bool (Unit {0}) (eat (word key.Instance)) (λ _. bind Bool (Unit {0}) (eat (word key.Default)) (λ _. no_vararg))

-- ---- the result

abbrev pub result_by : Rules → Bool → G (Option Term)
result_by rules true = bind (Unit {0}) (Option Term) pass (λ _. ret (Option Term) None)
result_by rules false = bind Term (Option Term) (written rules false) (λ t. ret (Option Term) (Some t))

-- "void" | type
unfoldable pub result_type : Rules → G (Option Term)
result_type rules = bind Lookahead (Option Term) lookahead (λ h. result_by rules (same_class (word key.Void) h.class))

-- ---- an argument

-- a word that says how an argument is passed, which isn't kept
abbrev pub is_mark : TokenClass → Bool
is_mark (class.Word key.In) = true
is_mark (class.Word key.Out) = true
is_mark (class.Word key.Optional) = true
is_mark _ = false

-- A `[` opens a mark, or else the scope of the argument's type.
abbrev pub mark_turn : TokenClass → Marks → Turn Marks
mark_turn q marks.Between = if same_class left_bracket q then Pass marks.Opened else Stop
mark_turn q marks.Opened = if is_mark q then Pass marks.Marked else Stop
mark_turn q marks.Marked = if same_class right_bracket q then Pass marks.Between else Refuse Unexpected

unfoldable pub marked : G Marks
marked = scan Marks mark_turn marks.Between

abbrev pub not_ellipsis : Rules → Bool → G Term
not_ellipsis rules true = refuse Term (Unsupported form.Vararg)
not_ellipsis rules false = written rules false

abbrev pub ellipsis : TokenClass
ellipsis = class.Directive key.Ellipsis

unfoldable pub argument_start : Rules → G Term
argument_start rules = bind Lookahead Term lookahead (λ h. not_ellipsis rules (same_class ellipsis h.class))

abbrev pub argument_type : Rules → Marks → G Term
argument_type rules marks.Between = argument_start rules
argument_type rules marks.Opened = written_rest rules
argument_type rules marks.Marked = refuse Term Unexpected

-- the argument's name, which isn't kept
abbrev pub name_if : Term → Bool → G Term
name_if t true = bind (List ℕ) Term name (λ _. ret Term t)
name_if t false = ret Term t

unfoldable pub then_name : Term → G Term
then_name t = bind Lookahead Term lookahead (λ h. name_if t (is_name h.class))

unfoldable pub argument : Rules → G Term
argument rules = bind Marks Term marked (λ s. bind Term Term (argument_type rules s) then_name)

-- why a token is refused that can't begin an argument
abbrev pub argument_first : TokenClass → List ℕ → Option Cause
argument_first q bytes = if same_class ellipsis q then Some (Unsupported form.Vararg) else first_cause false q bytes

unfoldable pub argument_list : Rules → G (List Term)
argument_list rules = separated Term argument_first (TooMany limit.Arguments) (argument rules) 16

abbrev pub arguments_by : Rules → Bool → G (List Term)
arguments_by rules true = bind (Unit {0}) (List Term) pass (λ _. ret (List Term) [])
arguments_by rules false = bind (List Term) (List Term) (argument_list rules) (λ args. bind (Unit {0}) (List Term) (expect right_paren) (λ _. ret (List Term) args))

-- "(" [ arg { "," arg } ] ")"
unfoldable pub arguments : Rules → G (List Term)
arguments rules = bind (Unit {0}) (List Term) (expect left_paren) (λ _.
    bind Lookahead (List Term) lookahead (λ h. arguments_by rules (same_class right_paren h.class)))
