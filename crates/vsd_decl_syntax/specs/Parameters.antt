-- Parameters: those of a declaration, and what `!` names.
use Rattle.std.specs.Prelude.{ℕ, ◌==◌, ◌-◌, ◌&&◌, nat_lt, Bool, true, false, if◌then◌else◌, List, [], ◌∷◌, length, position, Option, Some, None, Result, Ok, Err}
use Rattle.std.specs.Str.{bytes_eq}
use Rattle.vsd_ast.specs.declared.declarations.Param.{Param}
use Rattle.vsd_ast.specs.declared.declarations.Sign.{Sign}
use Rattle.vsd_ast.specs.declared.declarations.Sign.TheVariants as sign
use Rattle.vsd_grammar.specs.declared.keyword.Keyword.TheVariants as key
use Rattle.vsd_grammar.specs.declared.token_class.TokenClass.{TokenClass}
use Rattle.vsd_grammar.specs.declared.token_class.TokenClass.TheVariants as class
use Rattle.vsd_grammar.specs.declared.cause.Cause.{Cause}
use Rattle.vsd_grammar.specs.declared.cause.Cause.TheVariants.{Unexpected, Unsupported, TooMany}
use Rattle.vsd_grammar.specs.declared.cause.Form.TheVariants as form
use Rattle.vsd_grammar.specs.declared.cause.Counted.TheVariants as limit
use Rattle.vsd_grammar.specs.Input.{State, Lookahead, same_class}
use Rattle.vsd_grammar.specs.Grammar.{G, ret, refuse, lookahead, pass, bind, separated}
use Rattle.vsd_grammar.specs.Productions.{expect, is_digit, is_name, name, number_by}
use Rattle.vsd_type_syntax.specs.Types.{Rules, less, greater}

-- ---- what `!` names

-- one decimal digit, below a bound
abbrev pub digit_below : ℕ → List ℕ → Option ℕ
digit_below most [] = None
digit_below most (b ∷ []) = if is_digit b && nat_lt (b - 48) most then Some (b - 48) else None
digit_below most _ = None

-- a declaration has at most 8 parameters
abbrev pub most_params : ℕ
most_params = 8

-- by its place or by its name, among the parameters of the class in hand
abbrev pub own_parameter : List Param → TokenClass → List ℕ → Option ℕ
own_parameter params class.Number bytes = digit_below (length params) bytes
own_parameter params q bytes = if is_name q then position (λ p. bytes_eq p.name bytes) params else None

-- by its place alone, among those of an override's owner
abbrev pub owner_parameter : TokenClass → List ℕ → Option ℕ
owner_parameter class.Number bytes = digit_below most_params bytes
owner_parameter q bytes = None

abbrev pub parameter_in : Bool → List Param → TokenClass → List ℕ → Option ℕ
parameter_in of_owner params q bytes = if of_owner then owner_parameter q bytes else own_parameter params q bytes

-- how types are read in declarations
abbrev pub rules_of : Bool → List Param → Rules
rules_of of_owner params = record {
  resolve = λ bytes s. number_by bytes s (position (bytes_eq bytes) s.names);
  foreign = λ bytes. Unsupported form.ForeignType;
  has_parameters = true;
  parameter = parameter_in of_owner params;
  arity = λ number count. None;
}

-- ---- the parameters of a declaration

abbrev pub symbol_sign : ℕ → Option Sign
symbol_sign b = if b == 43 then Some sign.Plus else (if b == 45 then Some sign.Minus else None)

abbrev pub sign_of : TokenClass → Option Sign
sign_of (class.Symbol b) = symbol_sign b
sign_of q = None

-- what a constraint begins with, where a parameter's name is expected
abbrev pub is_constraint : TokenClass → Bool
is_constraint (class.Word key.Class) = true
is_constraint (class.Word key.ValueType) = true
is_constraint (class.Directive key.DotConstructor) = true
is_constraint (class.Symbol b) = b == 40
is_constraint _ = false

abbrev pub unconstrained : Sign → Bool → G Param
unconstrained s true = refuse Param (Unsupported form.Constraint)
unconstrained s false = bind (List ℕ) Param name (λ bytes. ret Param (record { name = bytes; sign = s }))

unfoldable pub param_name : Sign → G Param
param_name s = bind Lookahead Param lookahead (λ h. unconstrained s (is_constraint h.class))

abbrev pub signed : Option Sign → G Param
signed None = param_name sign.Plain
signed (Some s) = bind (Unit {0}) Param pass (λ _. param_name s)

unfoldable pub param : G Param
param = bind Lookahead Param lookahead (λ h. signed (sign_of h.class))

-- why a token is refused that can't begin a parameter
abbrev pub name_first : TokenClass → List ℕ → Option Cause
name_first q bytes = if is_constraint q then Some (Unsupported form.Constraint)
    else (if is_name q then (if length bytes == 0 then Some Unexpected else None) else Some Unexpected)

abbrev pub first_by : Option Sign → TokenClass → List ℕ → Option Cause
first_by (Some s) q bytes = None
first_by None q bytes = name_first q bytes

abbrev pub param_first : TokenClass → List ℕ → Option Cause
param_first q bytes = first_by (sign_of q) q bytes

unfoldable pub param_list : G (List Param)
param_list = separated Param param_first (TooMany limit.Parameters) param most_params

abbrev pub params_by : Bool → G (List Param)
params_by false = ret (List Param) []
params_by true = bind (Unit {0}) (List Param) pass (λ _. bind (List Param) (List Param) param_list (λ ps.
    bind (Unit {0}) (List Param) (expect greater) (λ _. ret (List Param) ps)))

-- [ "<" param { "," param } ">" ]
unfoldable pub params : G (List Param)
params = bind Lookahead (List Param) lookahead (λ h. params_by (same_class less h.class))
