-- What a refusal of tables prints.
use Rattle.std.specs.Prelude.{◌≡◌, ℕ, List, Option, Some, None}
use Rattle.vsd_terms.specs.Text.{text_of}
use Rattle.vsd_ast.specs.declared.declarations.Decl.{Decl}
use Rattle.vsd_types.specs.TypeList.{TypeList}
use Rattle.vsd_types.specs.Types.{declaration_of, type_at}
use Rattle.vsd_slots.specs.Refusals.{IsMissing, IsTooMany}
use Rattle.vsd_slots.specs.Texts.{name_text}
use Rattle.vsd_itable.specs.declared.error.BuildError.{BuildError}
use Rattle.vsd_itable.specs.declared.error.BuildError.TheVariants.{MissingImplementation, TooManySlots, Memory}

abbrev pub line_in : Option Decl → ℕ
line_in None = 0
line_in (Some x) = x.line

module _ (c : TypeList) where
  -- the line of the declaration of a type
  abbrev pub line_of : ℕ → ℕ
  line_of t = line_in (declaration_of c.decls.list (type_at c.types t))

  -- the text of a type
  abbrev pub type_text : ℕ → List ℕ
  type_text t = text_of c.decls.names (type_at c.types t)

  -- the class that is refused, the interface and the method that it lacks
  pub record IsMissingText (line : ℕ) (class interface method : List ℕ) : Type 0 where
    pub t : ℕ
    pub i : ℕ
    pub m : ℕ
    pub missing : IsMissing c t i m
    pub line_is : line ≡ line_of t
    pub class_is : class ≡ type_text t
    pub interface_is : interface ≡ type_text i
    pub method_is : method ≡ name_text c.decls.list (type_at c.types i) m

  -- the class with which there are too many slots
  pub record IsTooManyLine (line : ℕ) : Type 0 where
    pub t : ℕ
    pub many : IsTooMany c t
    pub line_is : line ≡ line_of t

  -- a refusal says what is so; want of memory says nothing
  abbrev pub IsRefused : BuildError → Type 0
  IsRefused (MissingImplementation line class interface method) = IsMissingText line class interface method
  IsRefused (TooManySlots line) = IsTooManyLine line
  IsRefused Memory = Unit {0}
