-- What names and types stand for in a script: its declarations, and nothing else.
use Rattle.std.specs.Prelude.{◌≡◌, ℕ, nat_eq, nat_lt, Bool, false, not, ◌&&◌, if◌then◌else◌, IsTrue, List, length, position, Option, Some, None, Result, Ok, Err}
use Rattle.std.specs.Str.{bytes_eq}
use Rattle.vsd_terms.specs.declared.term.Term.{Term}
use Rattle.vsd_terms.specs.Substitution.{parameters_of}
use Rattle.vsd_ast.specs.declared.declarations.Decl.{Decl}
use Rattle.vsd_ast.specs.declared.declarations.Decls.{Decls}
use Rattle.vsd_ast.specs.Lookup.{Head, named, parameter, built_in, head_of, declared, is_lawful}
use Rattle.vsd_grammar.specs.Input.{State}
use Rattle.vsd_grammar.specs.declared.cause.Cause.{Cause}
use Rattle.vsd_grammar.specs.declared.cause.Cause.TheVariants.{TooMany, UnknownName, Arity}
use Rattle.vsd_grammar.specs.declared.cause.Counted.TheVariants as limit
use Rattle.vsd_grammar.specs.Productions.{most_bytes}
use Rattle.vsd_type_syntax.specs.Types.{Rules}
use Rattle.vsd_type_syntax.specs.Limits.{IsSmall}

-- ---- names of types

-- the number of a name, where a type of that number is declared
abbrev pub numbered_by : Option Decl → ℕ → Option ℕ
numbered_by (Some x) n = Some n
numbered_by None n = None

abbrev pub numbered : List Decl → Option ℕ → Option ℕ
numbered ds (Some n) = numbered_by (declared ds n) n
numbered ds None = None

abbrev pub resolved : Option ℕ → State → Result (ℕ × State) Cause
resolved (Some n) s = Ok (n, s)
resolved None s = Err UnknownName

abbrev pub arity_by : Option Decl → ℕ → Option Cause
arity_by (Some x) count = if nat_eq (length x.params) count then None else Some Arity
arity_by None count = None

-- why a name after a scope is refused: one that is too long is no name, and any other is unknown
abbrev pub foreign_cause : List ℕ → Cause
foreign_cause name = if nat_lt most_bytes (length name) then TooMany limit.NameBytes else UnknownName

-- A name is that of a declared type, a name after a scope is none of them, there are no parameters, and a type has as
-- many arguments as its declaration has parameters.
abbrev pub rules_of : Decls → Rules
rules_of d = record {
  resolve = λ name s. resolved (numbered d.list (position (bytes_eq name) d.names)) s;
  foreign = foreign_cause;
  has_parameters = false;
  parameter = λ q bytes. None;
  arity = λ number count. arity_by (declared d.list number) count;
}

-- ---- objects

abbrev pub is_concrete_by : Option Decl → Bool
is_concrete_by (Some x) = not x.is_interface && not x.is_abstract
is_concrete_by None = false

abbrev pub is_concrete_head : List Decl → Head → Bool
is_concrete_head ds (named name) = is_concrete_by (declared ds name)
is_concrete_head ds (parameter place) = false
is_concrete_head ds (built_in b) = false

-- a class that isn't abstract: what a call may have as its object
abbrev pub is_concrete : List Decl → Term → Bool
is_concrete ds t = is_concrete_head ds (head_of t)

-- ---- roots

-- a term without parameters whose names are declared, each with as many arguments as its declaration has parameters, of
-- at most 16 levels and 64 nodes
pub record IsRoot (ds : List Decl) (t : Term) : Type 0 where
  pub closed : parameters_of t ≡ 0
  pub lawful : IsTrue (is_lawful ds t)
  pub small : IsSmall t
