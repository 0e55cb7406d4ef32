-- What closing and every recursion upward need of lawful declarations: names that mean one declaration, terms that may be
-- named, and a depth for each declaration that is greater than those of its base and its interfaces.
use Rattle.std.specs.Prelude.{◌≡◌, ℕ, suc, true, false, IsTrue, List, [], ◌∷◌, ◌++◌, map, length, All, Option, Some, None, IfSome, slice_get, slice_index_or}
use Rattle.vsd_terms.specs.declared.term.Builtin.TheVariants.{Object, ValueType}
use Rattle.vsd_terms.specs.declared.term.Term.{Term}
use Rattle.vsd_terms.specs.Size.{greatest}
use Rattle.vsd_ast.specs.declared.declarations.Decl.{Decl}
use Rattle.vsd_ast.specs.declared.declarations.Located.{Located}
use Rattle.vsd_ast.specs.Lookup.{Head, named, parameter, built_in, head_of, declared, place_of, is_lawful, is_value_type}

-- the terms that a declaration names right above itself: its base, then its interfaces in order
abbrev pub base_terms : Option Located → List Term
base_terms None = []
base_terms (Some b) = b.term ∷ []

abbrev pub above : Decl → List Term
above x = base_terms x.base ++ map (λ (i : Located). i.term) x.interfaces

module _ (ds : List Decl) where
  -- the number that a list over the declarations has for the one of this head, 0 where it is of none
  abbrev pub number_for : List ℕ → Head → ℕ
  number_for numbers (named name) = slice_index_or numbers (place_of ds name) 0
  number_for numbers (parameter place) = 0
  number_for numbers (built_in b) = 0

  -- a declaration's depth is one more than the greatest of what it names right above itself, where built-ins have 0
  pub record AreDepths (depths : List ℕ) : Type 0 where
    pub count : length depths ≡ length ds
    pub each : (i : ℕ) (x : Decl) → slice_get ds i ≡ Some x → slice_index_or depths i 0 ≡ suc (greatest (map (λ t. number_for depths (head_of t)) (above x)))

  -- a declared class that may have classes below it, or `object` or `System.ValueType`
  abbrev pub IsBase : Head → Type 0
  IsBase (named name) = IfSome (declared ds name) (λ (b : Decl). (b.is_interface ≡ false) × (b.sealed ≡ false) × (is_value_type b ≡ false))
  IsBase (parameter place) = ⊥
  IsBase (built_in Object) = Unit {0}
  IsBase (built_in ValueType) = Unit {0}
  IsBase (built_in b) = ⊥

  -- a declared interface
  abbrev pub IsInterface : Head → Type 0
  IsInterface (named name) = IfSome (declared ds name) (λ (i : Decl). i.is_interface ≡ true)
  IsInterface (parameter place) = ⊥
  IsInterface (built_in b) = ⊥

  pub record IsPlaced (x : Decl) : Type 0 where
    pub lawful : All (λ t. IsTrue (is_lawful ds t)) (above x)
    pub no_base : x.is_interface ≡ true → x.base ≡ None
    pub base : IfSome x.base (λ (b : Located). IsBase (head_of b.term))
    pub interfaces : All (λ (i : Located). IsInterface (head_of i.term)) x.interfaces

-- Declarations that lie above and below one another without a cycle.
pub record IsHierarchy (ds : List Decl) (depths : List ℕ) : Type 0 where
  pub distinct : (i j : ℕ) (x y : Decl) → slice_get ds i ≡ Some x → slice_get ds j ≡ Some y → x.name ≡ y.name → i ≡ j
  pub each : All (IsPlaced ds) ds
  pub deep : AreDepths ds depths
