-- The first method of a list that is asked for, and what is asked of it.
use Rattle.std.specs.Prelude.{◌≡◌, ℕ, List, map, Option, Some, None, slice_get}
use Rattle.std.specs.Option.{option_map}
use Rattle.vsd_terms.specs.declared.term.Term.{Term}
use Rattle.vsd_terms.specs.Substitution.{subst_of}
use Rattle.vsd_ast.specs.declared.declarations.Method.{Method}
use Rattle.vsd_ast.specs.declared.declarations.Override.{Override}
use Rattle.vsd_ast.specs.declared.declarations.Signature.{Signature}
use Rattle.vsd_ways.specs.Found.{SomeBefore}

-- the element at this place has the property, and none before it has
pub record IsFirstWith {A : Type 0} (P : A → Type 0) (xs : List A) (place : ℕ) (x : A) : Type 0 where
  pub there : slice_get xs place ≡ Some x
  pub has : P x
  pub first : SomeBefore P place xs → ⊥

-- a method of this name and signature
pub record IsNamed (wanted : List ℕ) (written : Signature) (m : Method) : Type 0 where
  pub name : m.name ≡ wanted
  pub signature : m.signature ≡ written

-- a signature of an interface's method at the arguments of the interface (ECMA-335, II.9.9)
abbrev pub subst_signature : List Term → Signature → Signature
subst_signature args s = record { result = option_map (subst_of args) s.result; arguments = map (subst_of args) s.arguments }

-- in the long form the signature is given; in the short form it is, at the owner's arguments, that of the implementing method
abbrev pub IsGiven : Option Signature → List Term → Signature → Signature → Type 0
IsGiven None args implementing signature = implementing ≡ subst_signature args signature
IsGiven (Some given) args implementing signature = signature ≡ given

-- a method of the owner's interface that an override with this implementing method gives, by name and signature
pub record IsMeant (o : Override) (args : List Term) (implementing : Signature) (m : Method) : Type 0 where
  pub name : m.name ≡ o.name
  pub given : IsGiven o.signature args implementing m.signature
