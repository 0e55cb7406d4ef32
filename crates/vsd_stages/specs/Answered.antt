-- The answers of a script over lawful declarations, by types alone.
use Rattle.std.specs.Prelude.{◌≡◌, ℕ, List, ◌++◌, codes, Option, Some, None}
use Rattle.vsd_terms.specs.declared.term.Term.{Term}
use Rattle.vsd_ast.specs.declared.declarations.Decls.{Decls}
use Rattle.vsd_ast.specs.declared.scripts.Script.{Script}
use Rattle.vsd_compat.specs.Compatibility.{IsCompatible}
use Rattle.vsd_slots.specs.Implementation.{Found}
use Rattle.vsd_slots.specs.Texts.{method_text}
use Rattle.vsd_itable.specs.Selection.{IsSelection}
use Rattle.vsd_lines.specs.Said.{IsScriptText}

-- what a call says of the method that it selected: that method, or that the slot is missing
abbrev pub said_of : Decls → Term → ℕ → Option Found → List ℕ
said_of d j m None = codes "missing " ++ method_text d.names d.list j m
said_of d j m (Some found) = method_text d.names d.list found.class found.method

-- what a call on an object of the type t says through the m-th method of the interface j
pub record IsSaid (d : Decls) (t j : Term) (m : ℕ) (said : List ℕ) : Type 0 where
  pub found : Option Found
  pub selected : IsSelection d.list t j m found
  pub said_is : said ≡ said_of d j m found

-- the bytes of the answers: the lines of the lanes in order, each by the types that its variables name
unfoldable pub AreAnswers : Decls → Script → List ℕ → Type 0
AreAnswers d s answers = IsScriptText (IsSaid d) (IsCompatible d.list) s answers
