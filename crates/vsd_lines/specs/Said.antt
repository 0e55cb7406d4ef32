-- The text of a script's answers by the types that its variables name: no number of a type, no token and no table is named.
use Rattle.std.specs.Prelude.{◌≡◌, ◌⊎◌, ℕ, ◌+◌, List, [], ◌∷◌, ◌++◌, codes, decimal, Some, slice_get, slice_index}
use Rattle.vsd_terms.specs.declared.term.Term.{Term}
use Rattle.vsd_ast.specs.declared.scripts.Lane.{Lane}
use Rattle.vsd_ast.specs.declared.scripts.Op.{Op}
use Rattle.vsd_ast.specs.declared.scripts.Op.TheVariants.{Load, Unload, Call, Cast}
use Rattle.vsd_ast.specs.declared.scripts.Script.{Script}
use Rattle.vsd_ast.specs.declared.scripts.Site.{Site}
use Rattle.vsd_ast.specs.declared.scripts.Var.{Var}
use Rattle.vsd_rule.specs.Lists.{entry}
use Rattle.vsd_answers.specs.Answers.{World, root_of}
use Rattle.vsd_lines.specs.Lines.{call_line, cast_line, host_names, name_of, target_text, verdict}

-- a variable names this type after these operations: that of the root of its latest load, or of the host
pub record Names (script : Script) (before : List Op) (variable : Var) (t : Term) : Type 0 where
  pub root : ℕ
  pub latest : root_of script.hosts before variable ≡ Some root
  pub type : slice_get script.roots root ≡ Some t

-- Given what a call says on an object of a type through a slot of an interface, and which type is compatible with which.
module _ (Says : Term → Term → ℕ → List ℕ → Type 0) (Fits : Term → Term → Type 0) (script : Script) where
  -- the line of a call: what the site's slot says on the object's type
  pub record IsCallLine (digits : List ℕ) (before : List Op) (number : ℕ) (object : Var) (line : List ℕ) : Type 0 where
    pub site : Site
    pub there : slice_get script.sites number ≡ Some site
    pub interface : Term
    pub named : slice_get script.roots site.root ≡ Some interface
    pub type : Term
    pub names : Names script before object type
    pub target : List ℕ
    pub says : Says type interface site.slot target
    pub line_is : line ≡ call_line digits site.name target

  -- yes where the first type is compatible with the second, else no
  abbrev pub IsVerdict : Term → Term → List ℕ → Type 0
  IsVerdict t u answer = (Fits t u × (answer ≡ codes "yes")) ⊎ ((¬ Fits t u) × (answer ≡ codes "no"))

  pub record IsCastLine (digits : List ℕ) (variables : List (List ℕ)) (before : List Op) (source target : Var) (line : List ℕ) : Type 0 where
    pub source_type : Term
    pub source_names : Names script before source source_type
    pub target_type : Term
    pub target_names : Names script before target target_type
    pub answer : List ℕ
    pub is : IsVerdict source_type target_type answer
    pub line_is : line ≡ cast_line digits (name_of (host_names script) variables source) (name_of (host_names script) variables target) answer

  -- the line of an operation after these, up to and with itself: a load and an unload have none
  abbrev pub IsLine : List ℕ → List (List ℕ) → List Op → Op → List ℕ → Type 0
  IsLine digits variables before (Load variable root) line = line ≡ []
  IsLine digits variables before (Unload variable) line = line ≡ []
  IsLine digits variables before (Call site object) line = IsCallLine digits before site object line
  IsLine digits variables before (Cast source target) line = IsCastLine digits variables before source target line

  -- the lines of operations in order, which stand after those before
  abbrev pub IsLaneText : List ℕ → List (List ℕ) → List Op → List Op → List ℕ → Type 0
  IsLaneText digits variables before [] text = text ≡ []
  IsLaneText digits variables before (op ∷ ops) text =
      (line : List ℕ) × (rest : List ℕ) × IsLine digits variables (before ++ op ∷ []) op line × IsLaneText digits variables (before ++ op ∷ []) ops rest × (text ≡ line ++ rest)

  -- the lines of lanes in order, which are numbered from this number on
  abbrev pub IsLanesText : ℕ → List Lane → List ℕ → Type 0
  IsLanesText number [] text = text ≡ []
  IsLanesText number (lane ∷ lanes) text =
      (lines : List ℕ) × (rest : List ℕ) × IsLaneText (decimal number) lane.names [] lane.ops lines × IsLanesText (number + 1) lanes rest × (text ≡ lines ++ rest)

  -- the text of the script's answers
  abbrev pub IsScriptText : List ℕ → Type 0
  IsScriptText text = IsLanesText 0 script.lanes text

  -- The lists of a world, the numbers of the roots' types and the tokens of the sites agree with what calls say and with what
  -- is compatible, by these texts of methods and slots.
  pub record Agrees (w : World) (types tokens : List ℕ) (method slot : ℕ → List ℕ) : Type 0 where
    pub calls : (root number : ℕ) (t interface : Term) (site : Site) → slice_get script.roots root ≡ Some t → slice_get script.sites number ≡ Some site
        → slice_get script.roots site.root ≡ Some interface
        → Says t interface site.slot (target_text method (slot (slice_index tokens number)) (entry w.sel w.tokens (slice_index types root) (slice_index tokens number)))
    pub casts : (root other : ℕ) (t u : Term) → slice_get script.roots root ≡ Some t → slice_get script.roots other ≡ Some u
        → IsVerdict t u (verdict (entry w.cmp w.types (slice_index types root) (slice_index types other)))
