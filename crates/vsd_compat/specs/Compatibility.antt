-- Compatibility of types (ECMA-335, I.8.7), by finite derivations. A value type counts as boxed where it is asked for `object`.
use Rattle.std.specs.Prelude.{◌≡◌, ℕ, true, List, Contains, Some, slice_get}
use Rattle.vsd_terms.specs.declared.term.Term.{Term}
use Rattle.vsd_ast.specs.declared.declarations.Decl.{Decl}
use Rattle.vsd_ast.specs.declared.declarations.Sign.{Sign}
use Rattle.vsd_ast.specs.declared.declarations.Sign.TheVariants.{Plus, Minus}
use Rattle.vsd_ast.specs.Lookup.{head_of}
use Rattle.vsd_types.specs.Types.{args_of, base_of, named_of, object, signs_of, is_interface_type, is_reference_type}

-- one generic interface, at maybe other arguments
pub record AreSameInterface (ds : List Decl) (t u : Term) : Type 0 where
  pub interface : is_interface_type ds t ≡ true
  pub generic : head_of t ≡ head_of u

-- the arguments a of t and b of u, at one parameter with a sign
pub record IsParameter (ds : List Decl) (t u : Term) (place : ℕ) (s : Sign) (a b : Term) : Type 0 where
  pub sign : slice_get (signs_of ds t) place ≡ Some s
  pub first : slice_get (args_of t) place ≡ Some a
  pub second : slice_get (args_of u) place ≡ Some b

pub record AreReferences (ds : List Decl) (a b : Term) : Type 0 where
  pub first : is_reference_type ds a ≡ true
  pub second : is_reference_type ds b ≡ true

mutual
  pub data IsCompatible (ds : List Decl) : Term → Term → Type 0 where
    same : {t u : Term} → t ≡ u → IsCompatible ds t u
    to_object : {t u : Term} → u ≡ object → IsCompatible ds t u
    by_base : {t u : Term} (b : Term) → base_of ds t ≡ Some b → IsCompatible ds b u → IsCompatible ds t u
    by_interface : {t u : Term} (i : Term) → Contains (named_of ds t) i → IsCompatible ds i u → IsCompatible ds t u
    by_variance : {t u : Term} → AreSameInterface ds t u → ((place : ℕ) (s : Sign) (a b : Term) → IsParameter ds t u place s a b → Varies ds s a b) → IsCompatible ds t u

  -- how the arguments at a parameter with this sign may differ
  pub data Varies (ds : List Decl) : Sign → Term → Term → Type 0 where
    equal : {s : Sign} {a b : Term} → a ≡ b → Varies ds s a b
    covariant : {s : Sign} {a b : Term} → s ≡ Plus → AreReferences ds a b → IsCompatible ds a b → Varies ds s a b
    contravariant : {s : Sign} {a b : Term} → s ≡ Minus → AreReferences ds a b → IsCompatible ds b a → Varies ds s a b
