-- The rules of compatibility, for any relation on types.
use Rattle.std.specs.Prelude.{◌≡◌, ℕ, ◌⊎◌, List, Contains, Some}
use Rattle.vsd_terms.specs.declared.term.Term.{Term}
use Rattle.vsd_ast.specs.declared.declarations.Decl.{Decl}
use Rattle.vsd_ast.specs.declared.declarations.Sign.{Sign}
use Rattle.vsd_ast.specs.declared.declarations.Sign.TheVariants.{Plus, Minus, Plain}
use Rattle.vsd_types.specs.Types.{base_of, named_of, object}
use Rattle.vsd_compat.specs.Compatibility.{AreReferences, AreSameInterface, IsParameter}

module _ (ds : List Decl) (Related : Term → Term → Type 0) where
  -- which way a sign turns a relation
  abbrev pub Turned : Sign → Term → Term → Type 0
  Turned Plus a b = Related a b
  Turned Minus a b = Related b a
  Turned Plain a b = ⊥

  -- arguments are equal, or both are reference types, related as the sign has it
  abbrev pub VariesAs : Sign → Term → Term → Type 0
  VariesAs s a b = (a ≡ b) ⊎ (AreReferences ds a b × Turned s a b)

  pub record KeepsRules : Type 0 where
    pub itself : (t : Term) → Related t t
    pub to_object : (t : Term) → Related t object
    pub base : (t b u : Term) → base_of ds t ≡ Some b → Related b u → Related t u
    pub interface : (t i u : Term) → Contains (named_of ds t) i → Related i u → Related t u
    pub variance : (t u : Term) → AreSameInterface ds t u → ((place : ℕ) (s : Sign) (a b : Term) → IsParameter ds t u place s a b → VariesAs s a b) → Related t u
