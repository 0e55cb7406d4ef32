-- What a script answers: which type each variable names at each operation, and so each call's target and each cast's value.
use Rattle.std.specs.Prelude.{All, ◌≡◌, ℕ, ◌<◌, cond, nat_eq, List, [], ◌∷◌, ◌++◌, map, length, slice_get, slice_index, EachIndex, Option, None, Some}
use Rattle.vsd_rule.specs.Lists.{entry}
use Rattle.vsd_ast.specs.Scripts.{IsWellFormedScript}
use Rattle.vsd_ast.specs.declared.scripts.Host.{Host}
use Rattle.vsd_ast.specs.declared.scripts.Lane.{Lane}
use Rattle.vsd_ast.specs.declared.scripts.Op.{Op}
use Rattle.vsd_ast.specs.declared.scripts.Op.TheVariants.{Load, Unload, Call, Cast}
use Rattle.vsd_ast.specs.declared.scripts.Script.{Script}
use Rattle.vsd_ast.specs.declared.scripts.Var.{Var}
use Rattle.vsd_ast.specs.declared.scripts.Var.TheVariants as var

-- What closed types and tokens answer: how many there are, the target for each type and token (0 where the slot is missing,
-- else a method's number plus 1), and for each two types 1 where the first is compatible with the second, else 0.
pub record World : Type 0 where
  pub types : ℕ
  pub tokens : ℕ
  pub sel : List ℕ
  pub cmp : List ℕ

-- the root that an operation loads into a variable
abbrev pub loaded : ℕ → Op → Option ℕ
loaded variable (Load other root) = cond (nat_eq other variable) (Some root) None
loaded variable (Unload other) = None
loaded variable (Call site object) = None
loaded variable (Cast source target) = None

abbrev pub first_of_both : Option ℕ → Option ℕ → Option ℕ
first_of_both (Some root) other = Some root
first_of_both None other = other

-- the root of a variable's latest load among these operations: that of the later ones, else that of the first
abbrev pub latest_load : ℕ → List Op → Option ℕ
latest_load variable [] = None
latest_load variable (op ∷ ops) = first_of_both (latest_load variable ops) (loaded variable op)

-- a variable's latest load among these operations, in other words: one that no load of the variable follows
pub record IsLatestLoad (variable root : ℕ) (ops : List Op) : Type 0 where
  pub before : List Op
  pub after : List Op
  pub whole : ops ≡ before ++ Load variable root ∷ after
  pub last : All (λ op. loaded variable op ≡ None) after

-- the world of these numbers and lists
abbrev pub world : ℕ → ℕ → List ℕ → List ℕ → World
world types tokens sel cmp = record { types = types; tokens = tokens; sel = sel; cmp = cmp }

-- what an operation answers where its variables name these types: a call its target, a cast its value
abbrev pub answer_by : World → List ℕ → (Var → ℕ) → Op → List ℕ
answer_by w tokens named (Load variable root) = []
answer_by w tokens named (Unload variable) = []
answer_by w tokens named (Call site object) = entry w.sel w.tokens (named object) (slice_index tokens site) ∷ []
answer_by w tokens named (Cast source target) = entry w.cmp w.types (named source) (named target) ∷ []

-- the root of a variable after these operations: that of its latest load, or the host's
abbrev pub root_of : List Host → List Op → Var → Option ℕ
root_of hosts before (var.Host host) = slice_get (map (λ (h : Host). h.root) hosts) host
root_of hosts before (var.Own variable) = latest_load variable before

module _ (hosts : List Host) (types : List ℕ) where
  -- the type of a root; a variable that was never loaded names nothing, and 0 stands for that
  abbrev pub type_of_root : Option ℕ → ℕ
  type_of_root (Some root) = slice_index types root
  type_of_root None = 0

  -- the type that a variable names after these operations
  abbrev pub named_type : List Op → Var → ℕ
  named_type before variable = type_of_root (root_of hosts before variable)

  -- the answers of operations in order, which stand after those before: each by what its variables name after all
  -- operations up to and with itself
  abbrev pub answers_after : World → List ℕ → List Op → List Op → List ℕ
  answers_after w tokens before [] = []
  answers_after w tokens before (op ∷ ops) =
      answer_by w tokens (named_type (before ++ op ∷ [])) op ++ answers_after w tokens (before ++ op ∷ []) ops

-- the answers of a script, lane by lane, where its roots have these types and its sites these tokens
abbrev pub answers_of : World → Script → List ℕ → List ℕ → List (List ℕ)
answers_of w script types tokens = map (λ (lane : Lane). answers_after script.hosts types w tokens [] lane.ops) script.lanes

-- A script that the world can answer, where its roots have these types and its sites these tokens.
pub record CanAnswer (w : World) (script : Script) (types tokens : List ℕ) : Type 0 where
  pub well_formed : IsWellFormedScript script
  pub types_count : length types ≡ length script.roots
  pub types_in : EachIndex types (λ root. slice_index types root < w.types)
  pub tokens_count : length tokens ≡ length script.sites
  pub tokens_in : EachIndex tokens (λ site. slice_index tokens site < w.tokens)
