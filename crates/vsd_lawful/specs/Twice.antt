-- What stands twice, or under the name of a built-in class.
use Rattle.std.specs.Prelude.{◌≡◌, ℕ, ◌<◌, ◌⊎◌, List, [], ◌∷◌, Some, codes, slice_get, slice_index_or, Contains}
use Rattle.vsd_least.specs.Least.{AtSome}
use Rattle.vsd_ast.specs.declared.declarations.Decl.{Decl}
use Rattle.vsd_ast.specs.declared.declarations.Method.{Method}
use Rattle.vsd_ast.specs.declared.declarations.Param.{Param}

-- an earlier element of the list is like this one
pub record Repeats {A : Type 0} (Alike : A → A → Type 0) (xs : List A) (place : ℕ) (x : A) : Type 0 where
  pub earlier : ℕ
  pub before : earlier < place
  pub other : A
  pub there : slice_get xs earlier ≡ Some other
  pub alike : Alike other x

-- some element of the list is like an earlier one
pub record HasRepeat {A : Type 0} (Alike : A → A → Type 0) (xs : List A) : Type 0 where
  pub place : ℕ
  pub element : A
  pub there : slice_get xs place ≡ Some element
  pub repeats : Repeats Alike xs place element

-- two declarations of one name (II.22.37)
abbrev pub SameName : Decl → Decl → Type 0
SameName x y = x.name ≡ y.name

-- two parameters of one name (II.22.20)
abbrev pub SameParam : Param → Param → Type 0
SameParam p q = p.name ≡ q.name

-- two methods of one name and one signature (II.22.26)
abbrev pub SameMethod : Method → Method → Type 0
SameMethod m n = (m.name ≡ n.name) × (m.signature ≡ n.signature)

-- the names of the built-in classes
abbrev pub class_names : List (List ℕ)
class_names = codes "System.Object" ∷ codes "System.String" ∷ codes "System.ValueType" ∷ []

-- the line of a method whose name and signature an earlier one of the declaration has
abbrev pub RepeatsMethod : List Method → ℕ → Method → ℕ → Type 0
RepeatsMethod methods place m line = Repeats SameMethod methods place m × (line ≡ m.line)

module _ (names : List (List ℕ)) (ds : List Decl) where
  -- the declaration's name is there already or is that of a built-in class, or two of its parameters have one name
  abbrev pub IsTwice : ℕ → Decl → Type 0
  IsTwice place x = Repeats SameName ds place x ⊎ (Contains class_names (slice_index_or names x.name []) ⊎ HasRepeat SameParam x.params)

  -- where a declaration shows what stands twice: at its own line, or at that of a method
  abbrev pub ShowsTwice : ℕ → Decl → ℕ → Type 0
  ShowsTwice place x line = (IsTwice place x × (line ≡ x.line)) ⊎ AtSome x.methods (RepeatsMethod x.methods) line
