-- What may stand as a base, and what as an interface (II.10.1.4, II.12, II.13).
use Rattle.std.specs.Prelude.{◌≡◌, ℕ, ◌⊎◌, true, false, List, IsTrue, IsSome}
use Rattle.std.specs.Option.{IsSomeAnd}
use Rattle.vsd_terms.specs.declared.term.Builtin.TheVariants.{String}
use Rattle.vsd_least.specs.Least.{AtSome}
use Rattle.vsd_ast.specs.Lookup.{Head, named, parameter, built_in, head_of, declared, is_value_type}
use Rattle.vsd_ast.specs.declared.declarations.Decl.{Decl}
use Rattle.vsd_ast.specs.declared.declarations.Located.{Located}

module _ (ds : List Decl) where
  -- an interface, a sealed class, a value type or `string`, none of which has classes below it
  abbrev pub IsUnfit : Head → Type 0
  IsUnfit (named name) = IsSomeAnd (declared ds name) (λ (b : Decl). (b.is_interface ≡ true) ⊎ ((b.sealed ≡ true) ⊎ IsTrue (is_value_type b)))
  IsUnfit (parameter place) = ⊥
  IsUnfit (built_in String) = Unit {0}
  IsUnfit (built_in b) = ⊥

  -- an interface with a base, or a base that is unfit
  abbrev pub HasBadBase : Decl → Type 0
  HasBadBase x = ((x.is_interface ≡ true) × IsSome x.base) ⊎ IsSomeAnd x.base (λ (b : Located). IsUnfit (head_of b.term))

  abbrev pub ShowsBadBase : Decl → ℕ → Type 0
  ShowsBadBase x line = HasBadBase x × (line ≡ x.line)

  -- a declared class, or what has no declaration
  abbrev pub IsNoInterface : Head → Type 0
  IsNoInterface (named name) = IsSomeAnd (declared ds name) (λ (i : Decl). i.is_interface ≡ false)
  IsNoInterface (parameter place) = Unit {0}
  IsNoInterface (built_in b) = Unit {0}

  -- the line of an interface that is named and is none
  abbrev pub IsBadInterface : ℕ → Located → ℕ → Type 0
  IsBadInterface place i line = IsNoInterface (head_of i.term) × (line ≡ i.line)

  abbrev pub ShowsBadInterface : Decl → ℕ → Type 0
  ShowsBadInterface x line = AtSome x.interfaces IsBadInterface line
