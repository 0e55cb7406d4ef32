-- The types that a declaration names are declared, and have as many arguments as they take (II.7.3, II.9.4).
use Rattle.std.specs.Prelude.{◌≡◌, ℕ, List, [], ◌∷◌, ◌++◌, ◌⊎◌, length, Option, Some, None, Any}
use Rattle.std.specs.List.{flat_map}
use Rattle.std.specs.Option.{IsSomeAnd, option_to_list}
use Rattle.vsd_terms.specs.declared.term.Term.{Term}
use Rattle.vsd_terms.specs.declared.term.Term.TheOpen as layer
use Rattle.vsd_terms.specs.declared.term.Term.TheFolds.{fold-Term}
use Rattle.vsd_least.specs.Least.{AtSome}
use Rattle.vsd_ast.specs.Lookup.{declared}
use Rattle.vsd_ast.specs.declared.declarations.Decl.{Decl}
use Rattle.vsd_ast.specs.declared.declarations.Implementer.{Implementer}
use Rattle.vsd_ast.specs.declared.declarations.Implementer.TheVariants.{Own, Named}
use Rattle.vsd_ast.specs.declared.declarations.Located.{Located}
use Rattle.vsd_ast.specs.declared.declarations.Method.{Method}
use Rattle.vsd_ast.specs.declared.declarations.Override.{Override}
use Rattle.vsd_ast.specs.declared.declarations.Signature.{Signature}

abbrev pub named_step : layer.Term-F (List (ℕ × ℕ)) → List (ℕ × ℕ)
named_step (layer.Named name args) = (name, length args) ∷ flat_map (λ inner. inner) args
named_step (layer.Param place) = []
named_step (layer.Builtin b) = []

-- each named type of the term, with the number of its arguments
abbrev pub named_in : Term → List (ℕ × ℕ)
named_in = fold-Term (List (ℕ × ℕ)) named_step

-- the terms of a signature
abbrev pub signature_terms : Signature → List Term
signature_terms s = option_to_list s.result ++ s.arguments

abbrev pub long_form_terms : Option Signature → List Term
long_form_terms None = []
long_form_terms (Some s) = signature_terms s

abbrev pub implementer_terms : Implementer → List Term
implementer_terms (Own place) = []
implementer_terms (Named owner name signature) = owner ∷ signature_terms signature

-- the terms of an override: its owner, those of the long form, those behind `with`
abbrev pub override_terms : Override → List Term
override_terms o = o.owner ∷ long_form_terms o.signature ++ implementer_terms o.body

module _ (P : ℕ × ℕ → Type 0) where
  -- one of the named types in the terms has this property
  abbrev pub Names : List Term → Type 0
  Names ts = Any P (flat_map named_in ts)

  -- the line of a base, of an interface, of a method or of an override that names a type with this property
  abbrev pub BaseNames : Option Located → ℕ → Type 0
  BaseNames base line = IsSomeAnd base (λ (b : Located). Names (b.term ∷ []) × (line ≡ b.line))

  abbrev pub InterfaceNames : ℕ → Located → ℕ → Type 0
  InterfaceNames place i line = Names (i.term ∷ []) × (line ≡ i.line)

  abbrev pub MethodNames : ℕ → Method → ℕ → Type 0
  MethodNames place m line = Names (signature_terms m.signature) × (line ≡ m.line)

  abbrev pub OverrideNames : ℕ → Override → ℕ → Type 0
  OverrideNames place o line = Names (override_terms o) × (line ≡ o.line)

  abbrev pub NamesAt : Decl → ℕ → Type 0
  NamesAt x line = BaseNames x.base line ⊎ (AtSome x.interfaces InterfaceNames line ⊎ (AtSome x.methods MethodNames line ⊎ AtSome x.overrides OverrideNames line))

module _ (ds : List Decl) where
  -- no declaration has the name
  abbrev pub IsUnknown : ℕ × ℕ → Type 0
  IsUnknown type = declared ds type.0 ≡ None

  -- the first declaration of the name has another number of parameters
  abbrev pub IsMiscounted : ℕ × ℕ → Type 0
  IsMiscounted type = IsSomeAnd (declared ds type.0) (λ (x : Decl). ¬ (length x.params ≡ type.1))

  abbrev pub ShowsUnknown : Decl → ℕ → Type 0
  ShowsUnknown = NamesAt IsUnknown

  abbrev pub ShowsArity : Decl → ℕ → Type 0
  ShowsArity = NamesAt IsMiscounted
