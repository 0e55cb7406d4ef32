-- Which method of a class stands for a method of an interface: by an override, and by its name and signature
-- (ECMA-335, II.10.3.2, II.12.2).
use Rattle.std.specs.Prelude.{ℕ, ◌<◌, ◌≤◌, All, IfSome, Bool, true, false, ◌&&◌, nat_eq, if◌then◌else◌, List, [], ◌∷◌, map, Option, Some, None, bytes_eq, slice_get}
use Rattle.std.specs.Cmp.Lexicographic.{pointwise}
use Rattle.std.specs.List.{position_from}
use Rattle.std.specs.Option.{option_and_then, option_eq, option_map, option_or}
use Rattle.vsd_terms.specs.declared.term.Term.{Term}
use Rattle.vsd_terms.specs.Equality.{term_eq}
use Rattle.vsd_terms.specs.Substitution.{parameters_of, subst_of}
use Rattle.vsd_ast.specs.declared.declarations.Access.{Access}
use Rattle.vsd_ast.specs.declared.declarations.Access.TheVariants.{Public}
use Rattle.vsd_ast.specs.declared.declarations.Decl.{Decl}
use Rattle.vsd_ast.specs.declared.declarations.Implementer.{Implementer}
use Rattle.vsd_ast.specs.declared.declarations.Implementer.TheVariants.{Own, Named}
use Rattle.vsd_ast.specs.declared.declarations.Method.{Method}
use Rattle.vsd_ast.specs.declared.declarations.Override.{Override}
use Rattle.vsd_ast.specs.declared.declarations.Signature.{Signature}
use Rattle.vsd_types.specs.Types.{args_of, declaration_of}

abbrev pub same_signature : Signature → Signature → Bool
same_signature a b = option_eq term_eq a.result b.result && pointwise term_eq a.arguments b.arguments

-- a signature with arguments in place of the parameters
abbrev pub signature_at : List Term → Signature → Signature
signature_at args s = record { result = option_map (subst_of args) s.result; arguments = map (subst_of args) s.arguments }

-- there are arguments for the parameters of a signature
pub record Fits (count : ℕ) (s : Signature) : Type 0 where
  pub result : IfSome s.result (λ t. parameters_of t ≤ count)
  pub arguments : All (λ t. parameters_of t ≤ count) s.arguments

abbrev pub is_public : Access → Bool
is_public Public = true
is_public access = false

-- the first that the function gives
abbrev pub first_given : {A B : Type 0} → (A → Option B) → List A → Option B
first_given f [] = None
first_given f (x ∷ xs) = option_or (f x) (first_given f xs)

abbrev pub methods_in : Option Decl → List Method
methods_in None = []
methods_in (Some x) = x.methods

abbrev pub overrides_in : Option Decl → List Override
overrides_in None = []
overrides_in (Some x) = x.overrides

-- a public method of a class with these arguments that has the name and the signature of a method of an interface with those
abbrev pub offers_at : List Term → Method → List Term → Method → Bool
offers_at interface_args m args p = is_public p.access && bytes_eq p.name m.name && same_signature (signature_at args p.signature) (signature_at interface_args m.signature)

-- ---- an override: which method of its class it gives, and for which method of its owner

-- the place of the method that it gives, among those of its class
abbrev pub given_by : List Method → Implementer → Option ℕ
given_by methods (Own place) = Some place
given_by methods (Named owner name signature) = position_from (λ (p : Method). bytes_eq p.name name && same_signature p.signature signature) 0 methods

-- the method that it gives is one of so many
abbrev pub IsOwnWithin : ℕ → Implementer → Type 0
IsOwnWithin count (Own place) = place < count
IsOwnWithin count (Named owner name signature) = Unit {0}

abbrev pub given_method : List Method → Implementer → Option Method
given_method methods body = option_and_then (slice_get methods) (given_by methods body)

-- In the long form the owner's method has the written signature, in the parameters of the owner's declaration. In the
-- short form it has, at the owner's arguments, the signature of the method that is given.
abbrev pub has_signature : List Term → Option Signature → Option Method → Method → Bool
has_signature owner_args (Some written) given m = same_signature m.signature written
has_signature owner_args None (Some p) m = same_signature (signature_at owner_args m.signature) p.signature
has_signature owner_args None None m = false

-- whether an override that gives this method is for a method of its owner
abbrev pub is_meant : Override → List Term → Option Method → Method → Bool
is_meant o owner_args given m = bytes_eq m.name o.name && has_signature owner_args o.signature given m

module _ (ds : List Decl) where
  -- the place of the method that it is for, the first that fits among those of its owner
  abbrev pub slot_of : List Method → Override → Option ℕ
  slot_of methods o = position_from (is_meant o (args_of o.owner) (given_method methods o.body)) 0 (methods_in (declaration_of ds o.owner))

  -- what an override of the class t gives for the m-th method of the interface i
  abbrev pub gives : Term → ℕ → Term → Override → Option ℕ
  gives i m t o = if term_eq (subst_of (args_of t) o.owner) i && option_eq nat_eq (slot_of (methods_in (declaration_of ds t)) o) (Some m) then given_by (methods_in (declaration_of ds t)) o.body else None

  -- the place of the method that the first such override of a class gives
  abbrev pub overriding : Term → ℕ → Term → Option ℕ
  overriding i m t = first_given (gives i m t) (overrides_in (declaration_of ds t))

  -- ---- by name and signature, after the arguments of both types are put in

  abbrev pub offering : Term → Term → Option Method → Option ℕ
  offering i t None = None
  offering i t (Some m) = position_from (offers_at (args_of i) m (args_of t)) 0 (methods_in (declaration_of ds t))

  -- the place of the first public virtual method of a class that has the name and the signature of the interface's
  abbrev pub naming : Term → ℕ → Term → Option ℕ
  naming i m t = offering i t (slice_get (methods_in (declaration_of ds i)) m)
