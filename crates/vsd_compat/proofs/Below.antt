-- Types that differ by variance alone, at any depth, as far down as they are known to be related.
use Rattle.std.proofs.Common.{◌≡◌, ℕ, ◌⊎◌, inl, inr, List, refl, sym, subst}
use Rattle.vsd_terms.specs.declared.term.Term.{Term}
use Rattle.vsd_ast.specs.declared.declarations.Decl.{Decl}
use Rattle.vsd_ast.specs.declared.declarations.Sign.{Sign}
use Rattle.vsd_ast.specs.declared.declarations.Sign.TheVariants.{Plus, Minus, Plain}
use Rattle.vsd_compat.specs.Compatibility.{AreReferences, AreSameInterface, IsCompatible, IsParameter, Varies, same, by_variance, equal, covariant, contravariant}
use Rattle.vsd_compat.proofs.Heads.{same_interface-references}
use Rattle.vsd_compat.proofs.Orderly.{AreOrderly}

mutual
  -- the first is the second, or is known to be below it, or is of its interface, at arguments that differ as the signs let them
  pub data IsBelow (ds : List Decl) (Known : Term → Term → Type 0) : Term → Term → Type 0 where
    alike : {a b : Term} → a ≡ b → IsBelow ds Known a b
    known : {a b : Term} → AreReferences ds a b → Known a b → IsBelow ds Known a b
    by_signs : {a b : Term} → AreSameInterface ds a b → ((place : ℕ) (s : Sign) (x y : Term) → IsParameter ds a b place s x y → Differs ds Known s x y) → IsBelow ds Known a b

  -- how arguments may differ at a parameter with this sign
  pub data Differs (ds : List Decl) (Known : Term → Term → Type 0) : Sign → Term → Term → Type 0 where
    unchanged : {s : Sign} {x y : Term} → x ≡ y → Differs ds Known s x y
    with_plus : {s : Sign} {x y : Term} → s ≡ Plus → IsBelow ds Known x y → Differs ds Known s x y
    with_minus : {s : Sign} {x y : Term} → s ≡ Minus → IsBelow ds Known y x → Differs ds Known s x y

abbrev pub opposite : Sign → Sign
opposite Plus = Minus
opposite Minus = Plus
opposite Plain = Plain

module _ (ds : List Decl) (Known : Term → Term → Type 0) where
  -- arguments that differ one way at a sign differ the other way at the opposite one
  pub differs-turned : {s : Sign} {x y : Term} → Differs ds Known s x y → Differs ds Known (opposite s) y x
  differs-turned (unchanged e) = unchanged (sym e)
  differs-turned (with_plus sign below) = with_minus (opposite_plus sign) below
    where
      opposite_plus : {s : Sign} → s ≡ Plus → opposite s ≡ Minus
      opposite_plus is = rw is refl
  differs-turned (with_minus sign below) = with_plus (opposite_minus sign) below
    where
      opposite_minus : {s : Sign} → s ≡ Minus → opposite s ≡ Plus
      opposite_minus is = rw is refl

  pub plain-unchanged : {s : Sign} {x y : Term} → s ≡ Plain → Differs ds Known s x y → x ≡ y
  plain-unchanged plain (unchanged e) = e
  plain-unchanged plain (with_plus sign below) = absurd cc
  plain-unchanged plain (with_minus sign below) = absurd cc

  pub plus-below : {s : Sign} {x y : Term} → s ≡ Plus → Differs ds Known s x y → IsBelow ds Known x y
  plus-below plus (unchanged e) = alike e
  plus-below plus (with_plus sign below) = below
  plus-below plus (with_minus sign below) = absurd cc

  pub minus-below : {s : Sign} {x y : Term} → s ≡ Minus → Differs ds Known s x y → IsBelow ds Known y x
  minus-below minus (unchanged e) = alike (sym e)
  minus-below minus (with_plus sign below) = absurd cc
  minus-below minus (with_minus sign below) = below

  module _ (orderly : AreOrderly ds) where
    pub below-references : {a b : Term} → IsBelow ds Known a b → (a ≡ b) ⊎ AreReferences ds a b
    below-references (alike e) = inl e
    below-references (known references related) = inr references
    below-references {a} {b} (by_signs generic at) = inr (same_interface-references ds orderly a b generic)

    module _ (compatible : (a b : Term) → Known a b → IsCompatible ds a b) where
      pub varies-plus : {x y : Term} → IsBelow ds Known x y → IsCompatible ds x y → Varies ds Plus x y
      varies-plus below rest = elim (below-references below) [
        | inl e ↦ equal e
        | inr references ↦ covariant refl references rest
      ]

      pub varies-minus : {x y : Term} → IsBelow ds Known y x → IsCompatible ds y x → Varies ds Minus x y
      varies-minus below rest = elim (below-references below) [
        | inl e ↦ equal (sym e)
        | inr references ↦ contravariant refl (record { first = references.second; second = references.first }) rest
      ]

      mutual
        -- what is below is compatible, where what is known is
        pub below-compatible : {a b : Term} → IsBelow ds Known a b → IsCompatible ds a b
        below-compatible (alike e) = same e
        below-compatible {a} {b} (known references related) = compatible a b related
        below-compatible (by_signs generic at) =
            by_variance generic (λ place s x y p. differs-varies (at place s x y p))

        pub differs-varies : {s : Sign} {x y : Term} → Differs ds Known s x y → Varies ds s x y
        differs-varies (unchanged e) = equal e
        differs-varies {s} {x} {y} (with_plus sign below) =
            subst (λ (z : Sign). Varies ds z x y) (sym sign) (varies-plus below (below-compatible below))
        differs-varies {s} {x} {y} (with_minus sign below) =
            subst (λ (z : Sign). Varies ds z x y) (sym sign) (varies-minus below (below-compatible below))
