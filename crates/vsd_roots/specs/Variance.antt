-- Which types may stand in which places of a variant interface (ECMA-335, II.9.7).
use Rattle.std.specs.Prelude.{◌≡◌, ℕ, ◌+◌, Bool, true, false, ◌&&◌, ◌⊎◌, List, [], ◌∷◌, Option, Some, None, slice_get}
use Rattle.vsd_terms.specs.declared.term.Term.{Term}
use Rattle.vsd_terms.specs.declared.term.Term.TheOpen as layer
use Rattle.vsd_terms.specs.declared.term.Term.TheFolds.{fold-Term}
use Rattle.vsd_least.specs.Least.{AtSome}
use Rattle.vsd_ast.specs.Lookup.{declared}
use Rattle.vsd_ast.specs.declared.declarations.Decl.{Decl}
use Rattle.vsd_ast.specs.declared.declarations.Located.{Located}
use Rattle.vsd_ast.specs.declared.declarations.Method.{Method}
use Rattle.vsd_ast.specs.declared.declarations.Param.{Param}
use Rattle.vsd_ast.specs.declared.declarations.Sign.{Sign}
use Rattle.vsd_ast.specs.declared.declarations.Sign.TheVariants.{Plus, Minus, Plain}
use Rattle.vsd_ast.specs.declared.declarations.Signature.{Signature}
use Rattle.vsd_roots.specs.declared.variance.Position.{Position}
use Rattle.vsd_roots.specs.declared.variance.Position.TheVariants.{Positive, Negative, Invariant}

-- the other way round; an invariant place stays so
abbrev pub turned : Position → Position
turned Positive = Negative
turned Negative = Positive
turned Invariant = Invariant

-- the place of an argument for a parameter of this sign, of a type in this place
abbrev pub inside : Sign → Position → Position
inside Plus place = place
inside Minus place = turned place
inside Plain place = Invariant

-- a covariant parameter stands in positive places alone, a contravariant one in negative places alone
abbrev pub may_stand : Sign → Position → Bool
may_stand Plain place = true
may_stand Plus Positive = true
may_stand Plus Negative = false
may_stand Plus Invariant = false
may_stand Minus Positive = false
may_stand Minus Negative = true
may_stand Minus Invariant = false

abbrev pub sign_of : Option Param → Sign
sign_of None = Plain
sign_of (Some p) = p.sign

-- the parameters of a class have no sign
abbrev pub interface_sign : Bool → Sign → Sign
interface_sign true sign = sign
interface_sign false sign = Plain

abbrev pub parameter_sign : Option Decl → ℕ → Sign
parameter_sign None place = Plain
parameter_sign (Some x) place = interface_sign x.is_interface (sign_of (slice_get x.params place))

module _ (ds : List Decl) where
  -- each argument, from this one on, may stand where its parameter puts it
  abbrev pub arguments_valid : ℕ → ℕ → List (Position → Bool) → Position → Bool
  arguments_valid name i [] place = true
  arguments_valid name i (valid ∷ rest) place = valid (inside (parameter_sign (declared ds name) i) place) && arguments_valid name (i + 1) rest place

  module _ (own : List Param) where
    abbrev pub valid_step : layer.Term-F (Position → Bool) → Position → Bool
    valid_step (layer.Named name args) place = arguments_valid name 0 args place
    valid_step (layer.Param n) place = may_stand (sign_of (slice_get own n)) place
    valid_step (layer.Builtin b) place = true

    -- the term may stand in the place, in an interface with these parameters
    abbrev pub is_valid : Term → Position → Bool
    is_valid = fold-Term (Position → Bool) valid_step

    abbrev pub result_valid : Option Term → Bool
    result_valid None = true
    result_valid (Some t) = is_valid t Positive

    abbrev pub all_negative : List Term → Bool
    all_negative [] = true
    all_negative (t ∷ ts) = is_valid t Negative && all_negative ts

    -- a result stands in a positive place, arguments in negative ones
    abbrev pub signature_valid : Signature → Bool
    signature_valid s = result_valid s.result && all_negative s.arguments

    abbrev pub MethodMisplaced : ℕ → Method → ℕ → Type 0
    MethodMisplaced place m line = (signature_valid m.signature ≡ false) × (line ≡ m.line)

    -- a required interface stands in a positive place
    abbrev pub InterfaceMisplaced : ℕ → Located → ℕ → Type 0
    InterfaceMisplaced place i line = (is_valid i.term Positive ≡ false) × (line ≡ i.line)

  -- the line of a method, or of a required interface, of an interface that breaks variance validity
  abbrev pub ShowsMisplaced : Decl → ℕ → Type 0
  ShowsMisplaced x line = (x.is_interface ≡ true) × (AtSome x.methods (MethodMisplaced x.params) line ⊎ AtSome x.interfaces (InterfaceMisplaced x.params) line)
