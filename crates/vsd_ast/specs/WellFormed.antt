-- What the grammar and its limits make of declarations: numbers in range, lists not too long, forms of types at their places.
use Rattle.std.specs.Prelude.{ℕ, ◌<◌, ◌≤◌, List, length, All, IfSome}
use Rattle.vsd_terms.specs.declared.term.Builtin.{Builtin}
use Rattle.vsd_terms.specs.declared.term.Builtin.TheVariants.{Object, String, ValueType}
use Rattle.vsd_terms.specs.declared.term.Term.{Term}
use Rattle.vsd_terms.specs.Size.{levels_of, nodes_of}
use Rattle.vsd_terms.specs.Substitution.{parameters_of}
use Rattle.vsd_terms.specs.Text.{names_of}
use Rattle.vsd_ast.specs.Lookup.{Head, named, parameter, built_in, head_of}
use Rattle.vsd_ast.specs.declared.declarations.Decl.{Decl}
use Rattle.vsd_ast.specs.declared.declarations.Decls.{Decls}
use Rattle.vsd_ast.specs.declared.declarations.Implementer.{Implementer}
use Rattle.vsd_ast.specs.declared.declarations.Implementer.TheVariants.{Own, Named}
use Rattle.vsd_ast.specs.declared.declarations.Located.{Located}
use Rattle.vsd_ast.specs.declared.declarations.Method.{Method}
use Rattle.vsd_ast.specs.declared.declarations.Override.{Override}
use Rattle.vsd_ast.specs.declared.declarations.Param.{Param}
use Rattle.vsd_ast.specs.declared.declarations.Signature.{Signature}

-- 1 to 255 bytes
pub record IsName (bytes : List ℕ) : Type 0 where
  pub some : 0 < length bytes
  pub few : length bytes ≤ 255

-- a written term among so many names and parameters
pub record IsWritten (names parameters : ℕ) (t : Term) : Type 0 where
  pub named : names_of t ≤ names
  pub bound : parameters_of t ≤ parameters
  pub levels : levels_of t ≤ 16
  pub nodes : nodes_of t ≤ 64

abbrev pub IsClassBuiltin : Builtin → Type 0
IsClassBuiltin Object = Unit {0}
IsClassBuiltin String = Unit {0}
IsClassBuiltin ValueType = Unit {0}
IsClassBuiltin b = ⊥

-- a named type, or a built-in that is a class: what may stand as a base, an interface, or the owner of an override
abbrev pub IsClassHead : Head → Type 0
IsClassHead (named name) = Unit {0}
IsClassHead (parameter place) = ⊥
IsClassHead (built_in b) = IsClassBuiltin b

module _ (names : ℕ) where
  pub record IsClassWritten (parameters : ℕ) (t : Term) : Type 0 where
    pub class : IsClassHead (head_of t)
    pub written : IsWritten names parameters t

  pub record IsSignature (parameters : ℕ) (s : Signature) : Type 0 where
    pub result : IfSome s.result (IsWritten names parameters)
    pub few : length s.arguments ≤ 16
    pub arguments : All (IsWritten names parameters) s.arguments

  pub record IsMethod (parameters : ℕ) (m : Method) : Type 0 where
    pub name : IsName m.name
    pub signature : IsSignature parameters m.signature

  abbrev pub IsImplementer : ℕ → ℕ → Implementer → Type 0
  IsImplementer parameters methods (Own place) = place < methods
  IsImplementer parameters methods (Named owner name signature) = IsClassWritten parameters owner × IsName name × IsSignature parameters signature

  -- the parameters of the signature in the long form are those of the owner's declaration, which has at most 8
  pub record IsOverride (parameters methods : ℕ) (o : Override) : Type 0 where
    pub owner : IsClassWritten parameters o.owner
    pub name : IsName o.name
    pub signature : IfSome o.signature (IsSignature 8)
    pub body : IsImplementer parameters methods o.body

  pub record IsDeclaration (x : Decl) : Type 0 where
    pub name : x.name < names
    pub few_params : length x.params ≤ 8
    pub few_interfaces : length x.interfaces ≤ 64
    pub few_methods : length x.methods ≤ 256
    pub few_overrides : length x.overrides ≤ 256
    pub params : All (λ (p : Param). IsName p.name) x.params
    pub base : IfSome x.base (λ (b : Located). IsClassWritten (length x.params) b.term)
    pub interfaces : All (λ (i : Located). IsClassWritten (length x.params) i.term) x.interfaces
    pub methods : All (IsMethod (length x.params)) x.methods
    pub overrides : All (IsOverride (length x.params) (length x.methods)) x.overrides

-- declarations as the grammar and its limits give them
pub record AreWellFormed (d : Decls) : Type 0 where
  pub few : length d.list ≤ 1024
  pub each : All (IsDeclaration (length d.names)) d.list
