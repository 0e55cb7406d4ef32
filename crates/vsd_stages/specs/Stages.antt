-- What a text answers, or its first refusal: the stages in their order, each on what those before it gave.
use Rattle.std.specs.Prelude.{◌≡◌, ℕ, List, [], length, Ok, Err, Some}
use Rattle.vsd_text.specs.Tokens.{tokens_of}
use Rattle.vsd_text.specs.declared.tokens.LexError.{LexError}
use Rattle.vsd_text.specs.declared.tokens.Token.{Token}
use Rattle.vsd_terms.specs.declared.term.Term.{Term}
use Rattle.vsd_ast.specs.declared.declarations.Decls.{Decls}
use Rattle.vsd_ast.specs.declared.scripts.Script.{Script}
use Rattle.vsd_grammar.specs.declared.cause.Cause.{Cause}
use Rattle.vsd_grammar.specs.declared.syntax_error.SyntaxError.{SyntaxError}
use Rattle.vsd_grammar.specs.declared.syntax_error.Stop.TheVariants as stop
use Rattle.vsd_grammar.specs.Input.{Input}
use Rattle.vsd_grammar.specs.Grammar.{run, Derives}
use Rattle.vsd_grammar.specs.Place.{start_of}
use Rattle.vsd_decls.specs.Declarations.{AreDeclarations, IsFirstRefusal}
use Rattle.vsd_decls.specs.Refusals as decls
use Rattle.vsd_decls.specs.declared.errors.DeclError.{DeclError}
use Rattle.vsd_check.specs.Conditions.{AreLawful, IsEarliest}
use Rattle.vsd_check.specs.Refusals as check
use Rattle.vsd_check.specs.declared.refusal.CheckError.{CheckError}
use Rattle.vsd_check.specs.declared.refusal.Shown.{Shown}
use Rattle.vsd_script.specs.Errors.{told}
use Rattle.vsd_script.specs.Productions.{script}
use Rattle.vsd_slots.specs.Refusals.{Passes}
use Rattle.vsd_types.specs.Closing.{closing}
use Rattle.vsd_types.specs.TypeList.{TypeList}
use Rattle.vsd_types.specs.declared.error.CloseError.{CloseError}
use Rattle.vsd_itable.specs.Refusals.{IsRefused}
use Rattle.vsd_itable.specs.declared.error.BuildError.{BuildError}
use Rattle.vsd_itable.specs.declared.error.BuildError.TheVariants as build
use Rattle.vsd_refusals.specs.declared.refusal.Refusal.{Refusal}
use Rattle.vsd_refusals.specs.declared.refusal.Refusal.TheVariants as refusal
use Rattle.vsd_stages.specs.Endings.{Ending, accepted, refused, Stage}
use Rattle.vsd_stages.specs.Answered.{AreAnswers}

-- ---- lexing

pub record IsLexRefusal (text : List ℕ) (r : Refusal) : Type 0 where
  pub error : LexError
  pub first : tokens_of text ≡ Err error
  pub is : r ≡ refusal.Lex error

-- ---- declarations, which end with the `%%`

-- the first refusal to which the reading of declarations comes
pub record IsDeclRefusal (text : List ℕ) (tokens : List Token) (r : Refusal) : Type 0 where
  pub error : DeclError
  pub shown : ℕ × Cause
  pub tells : decls.refusal_of error ≡ Some shown
  pub first : IsFirstRefusal text tokens shown
  pub is : r ≡ refusal.Decl error

-- ---- lawful declarations

-- what shows first, by pass, line and number
pub record IsCheckRefusal (d : Decls) (r : Refusal) : Type 0 where
  pub error : CheckError
  pub shown : Shown
  pub tells : check.refusal_of error ≡ Some shown
  pub first : IsEarliest d shown
  pub is : r ≡ refusal.Check error

-- ---- the script, which follows the declarations

-- the productions derive this script from the tokens after the declarations, up to the end
pub record IsScript (text : List ℕ) (tokens : List Token) (d : Decls) (s : Script) : Type 0 where
  pub end : Input
  pub derived : Derives Script (script d) (start_of text tokens d.rest []) s end

-- the first refusal to which the reading of the script comes
pub record IsScriptRefusal (text : List ℕ) (tokens : List Token) (d : Decls) (r : Refusal) : Type 0 where
  pub first : SyntaxError
  pub reached : run Script (script d) (start_of text tokens d.rest []) ≡ Err first
  pub is : r ≡ refusal.Script (told tokens (stop.Refused first))

-- ---- closed types

pub record IsCloseRefusal (d : Decls) (roots : List Term) (r : Refusal) : Type 0 where
  pub error : CloseError
  pub first : closing d roots ≡ Err error
  pub is : r ≡ refusal.Close error

-- ---- classes over the closed types

-- the closed types of declarations, each numbered by its place
abbrev pub closed_over : Decls → List Term → TypeList
closed_over d types = record { decls = d; types = types }

-- no class has too many slots, or lacks one
abbrev pub AreWhole : TypeList → Type 0
AreWhole c = Passes c (length c.types)

-- the first class that does, and the first slot that it lacks
pub record IsBuildRefusal (c : TypeList) (r : Refusal) : Type 0 where
  pub error : BuildError
  pub real : error ≡ build.Memory → ⊥
  pub first : IsRefused c error
  pub is : r ≡ refusal.Build error

-- ---- the stages, the last first

module _ (d : Decls) (s : Script) where
  -- the answers of the script
  unfoldable pub Answers : Ending → Type 0
  Answers (accepted answers) = AreAnswers d s answers
  Answers (refused r) = ⊥

  -- classes over these types that are whole are gone on with
  unfoldable pub Builds : List Term → Ending → Type 0
  Builds types = Stage (λ (u : Unit {0}). AreWhole (closed_over d types)) (IsBuildRefusal (closed_over d types)) (λ u. Answers)

  -- types are closed over the roots of the script
  unfoldable pub Closes : Ending → Type 0
  Closes = Stage (λ types. closing d s.roots ≡ Ok types) (IsCloseRefusal d s.roots) Builds

module _ (text : List ℕ) (tokens : List Token) where
  -- the script is read over the declarations
  unfoldable pub Scripts : Decls → Ending → Type 0
  Scripts d = Stage (IsScript text tokens d) (IsScriptRefusal text tokens d) (Closes d)

  -- declarations that are lawful are gone on with
  unfoldable pub Checks : Decls → Ending → Type 0
  Checks d = Stage (λ (u : Unit {0}). AreLawful d) (IsCheckRefusal d) (λ u. Scripts d)

  -- the tokens up to the `%%` are declarations
  unfoldable pub Declares : Ending → Type 0
  Declares = Stage (AreDeclarations text tokens) (IsDeclRefusal text tokens) Checks

-- How a text ends: the stages begin with lexing.
unfoldable pub Ends : List ℕ → Ending → Type 0
Ends text = Stage (λ tokens. tokens_of text ≡ Ok tokens) (IsLexRefusal text) (Declares text)
