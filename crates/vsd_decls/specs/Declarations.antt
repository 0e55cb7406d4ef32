-- The declarations that a text derives.
use Rattle.std.specs.Prelude.{◌≡◌, ℕ, Bool, true, List, [], Result, Ok, Err, IfSome}
use Rattle.vsd_text.specs.declared.tokens.Token.{Token}
use Rattle.vsd_ast.specs.declared.declarations.Decl.{Decl}
use Rattle.vsd_ast.specs.declared.declarations.Decls.{Decls}
use Rattle.vsd_grammar.specs.declared.cause.Cause.{Cause}
use Rattle.vsd_grammar.specs.declared.syntax_error.SyntaxError.{SyntaxError}
use Rattle.vsd_grammar.specs.declared.token_class.TokenClass.{TokenClass}
use Rattle.vsd_grammar.specs.Input.{Input}
use Rattle.vsd_grammar.specs.Grammar.{run, Derives}
use Rattle.vsd_grammar.specs.Laws.{NoOther}
use Rattle.vsd_grammar.specs.Place.{start_of, line_of}
use Rattle.vsd_decls.specs.declared.errors.DeclError.{DeclError}
use Rattle.vsd_decls.specs.Refusals.{refusal_of}
use Rattle.vsd_decls.specs.Grammar.{declarations}

-- before the first token of a text, where no name was seen
abbrev pub beginning : List ℕ → List Token → Input
beginning text tokens = start_of text tokens 0 []

-- The productions derive this list from the tokens up to and with the `%%` after it, the names are those of types that
-- were seen there, in order of first sight, and the rest begins after that `%%`.
pub record AreDeclarations (text : List ℕ) (tokens : List Token) (d : Decls) : Type 0 where
  pub end : Input
  pub derived : Derives (List Decl) declarations (beginning text tokens) d.list end
  pub names : end.state.names ≡ d.names
  pub rest : end.at ≡ d.rest

-- the declarations of which a text has this list up to this place
abbrev pub decls_of : Input → List Decl → Decls
decls_of j list = record { names = j.state.names; list = list; rest = j.at }

-- The answer is these declarations, or memory is out.
abbrev pub IsOnly : Decls → Result Decls DeclError → Type 0
IsOnly d (Ok e) = d ≡ e
IsOnly d (Err e) = IfSome (refusal_of e) (λ s. ⊥)

-- The reading of the productions comes to its first refusal for this cause, at a token of this line.
pub record IsFirstRefusal (text : List ℕ) (tokens : List Token) (shown : ℕ × Cause) : Type 0 where
  pub first : SyntaxError
  pub reached : run (List Decl) declarations (beginning text tokens) ≡ Err first
  pub line : shown.0 ≡ line_of tokens first.at
  pub cause : shown.1 ≡ first.cause

-- The answer is this refusal, or memory is out.
abbrev pub IsRefused : ℕ × Cause → Result Decls DeclError → Type 0
IsRefused shown (Ok d) = ⊥
IsRefused shown (Err e) = IfSome (refusal_of e) (λ s. s ≡ shown)

-- anything may stand after declarations: what follows the `%%` is not read with them
abbrev pub anything : TokenClass → Bool
anything q = true

-- No list of tokens that is the same up to and with the token that decided the first refusal derives declarations.
abbrev pub IsDead : List ℕ → List Token → Type 0
IsDead text tokens = (r : SyntaxError) → run (List Decl) declarations (beginning text tokens) ≡ Err r → NoOther (List Decl) declarations anything (beginning text tokens) r
