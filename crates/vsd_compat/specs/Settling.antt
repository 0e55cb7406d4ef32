-- A matrix on the way: the bits that are set are right, and what a row still lacks.
use Rattle.std.specs.Prelude.{◌≡◌, ℕ, ◌-◌, ◌<◌, ◌⊎◌, Bool, true, false, Contains, Some, length}
use Rattle.vsd_ast.specs.declared.declarations.Sign.{Sign}
use Rattle.vsd_ast.specs.declared.declarations.Sign.TheVariants.{Plus, Minus, Plain}
use Rattle.vsd_types.specs.TypeList.{TypeList}
use Rattle.vsd_types.specs.Types.{base_of, named_of, object, type_at}
use Rattle.vsd_compat.specs.Compatibility.{AreReferences, AreSameInterface, IsCompatible, IsParameter}
use Rattle.vsd_compat.specs.Matrices.{Bits, IsSet}

-- the bit that lets arguments differ at a parameter with this sign
abbrev pub Directed : Bits → Sign → ℕ → ℕ → Type 0
Directed b Plus x y = IsSet b x y
Directed b Minus x y = IsSet b y x
Directed b Plain x y = ⊥

module _ (c : TypeList) (b : Bits) where
  abbrev pub VariesIn : Sign → ℕ → ℕ → Type 0
  VariesIn s x y = (x ≡ y) ⊎ (AreReferences c.decls.list (type_at c.types x) (type_at c.types y) × Directed b s x y)

  -- the arguments of two types of one interface differ only as the bits let them
  abbrev pub AreVariantIn : ℕ → ℕ → Type 0
  AreVariantIn t u = (place : ℕ) (s : Sign) (x y : ℕ) → x < length c.types → y < length c.types → IsParameter c.decls.list (type_at c.types t) (type_at c.types u) place s (type_at c.types x) (type_at c.types y) → VariesIn s x y

  -- each bit that is set is right
  abbrev pub IsSound : Type 0
  IsSound = (t u : ℕ) → t < length c.types → u < length c.types → IsSet b t u → IsCompatible c.decls.list (type_at c.types t) (type_at c.types u)

  -- each type has its own bit, and that of `object`
  pub record IsStarted : Type 0 where
    pub own : (t : ℕ) → t < length c.types → IsSet b t t
    pub object : (t u : ℕ) → t < length c.types → u < length c.types → type_at c.types u ≡ object → IsSet b t u

  -- what the base has, the row has
  abbrev pub HasBase : ℕ → Type 0
  HasBase t = (x : ℕ) → x < length c.types → base_of c.decls.list (type_at c.types t) ≡ Some (type_at c.types x) → (u : ℕ) → u < length c.types → IsSet b x u → IsSet b t u

  -- what a named interface has, the row has
  abbrev pub HasInterfaces : ℕ → Type 0
  HasInterfaces t = (x : ℕ) → x < length c.types → Contains (named_of c.decls.list (type_at c.types t)) (type_at c.types x) → (u : ℕ) → u < length c.types → IsSet b x u → IsSet b t u

  -- the row has each type of its interface from which its arguments differ only as the bits let them
  abbrev pub HasVariant : ℕ → ℕ → Type 0
  HasVariant t u = AreSameInterface c.decls.list (type_at c.types t) (type_at c.types u) → AreVariantIn t u → IsSet b t u

  pub record IsSettled (t : ℕ) : Type 0 where
    pub base : HasBase t
    pub interfaces : HasInterfaces t
    pub variants : (u : ℕ) → u < length c.types → HasVariant t u

-- the k-th number from the front, or from the back
abbrev pub turned : ℕ → Bool → ℕ → ℕ
turned count true k = k
turned count false k = count - 1 - k
