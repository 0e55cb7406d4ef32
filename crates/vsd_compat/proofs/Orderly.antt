-- What lawful declarations keep to, as far as compatibility follows what they name.
use Rattle.std.proofs.Common.{◌≡◌, ℕ, Bool, true, false, List, [], ◌∷◌, get_or, Option, Some, None, IsSome, IfSome, All, inl, inr, refl, sym, ◌∙◌, subst}
use Rattle.std.specs.List.{slice_get}
use Rattle.std.specs.Option.{IsSomeAnd}
use Rattle.std.proofs.lemmas.Option.{slice_get-get_or}
use Rattle.vsd_ast.specs.Lookup.{declared, is_lawful, place_of}
use Rattle.vsd_ast.specs.declared.declarations.Decl.{Decl}
use Rattle.vsd_ast.specs.declared.declarations.Decls.{Decls}
use Rattle.vsd_ast.specs.declared.declarations.Located.{Located}
use Rattle.vsd_lawful.specs.Types.{IsMiscounted, IsUnknown, Names}
use Rattle.vsd_hierarchy.proofs.HierarchyLemmas.{is_lawful_where}
use Rattle.vsd_roots.specs.Variance.{is_valid}
use Rattle.vsd_roots.specs.declared.variance.Position.TheVariants.{Positive}
use Rattle.vsd_roots.proofs.VarianceLemmas.{place_of-get}
use Rattle.vsd_check.specs.Conditions.{AreLawful}
use Rattle.vsd_check.specs.declared.refusal.Cause.TheVariants.{UnknownType, Arity, BadBase, VarianceMisplaced}

-- What it names is lawful. An interface has no base, and what it requires may stand in positive places.
pub record IsOrderly (ds : List Decl) (x : Decl) : Type 0 where
  pub base : IfSome x.base (λ (b : Located). is_lawful ds b.term ≡ true)
  pub interfaces : All (λ (i : Located). is_lawful ds i.term ≡ true) x.interfaces
  pub no_base : x.is_interface ≡ true → x.base ≡ None
  pub valid : x.is_interface ≡ true → All (λ (i : Located). is_valid ds x.params i.term Positive ≡ true) x.interfaces

-- so does the declaration of each name
abbrev pub AreOrderly : List Decl → Type 0
AreOrderly ds = (name : ℕ) (x : Decl) → declared ds name ≡ Some x → IsOrderly ds x

not_false : (b : Bool) → ¬ (b ≡ false) → b ≡ true
not_false true no_one = refl
not_false false no_one = absurd (no_one refl)

module _ (d : Decls) (lawful : AreLawful d) (place : ℕ) (x : Decl) (here : slice_get d.list place ≡ Some x) where
  base_lawful : (b : Located) → x.base ≡ Some b → is_lawful d.list b.term ≡ true
  base_lawful b is = is_lawful_where d.list b.term
      (λ names. lawful UnknownType b.line (record { place = place; element = x; there = here; shows = inl (at_base (IsUnknown d.list) names) }))
      (λ names. lawful Arity b.line (record { place = place; element = x; there = here; shows = inl (at_base (IsMiscounted d.list) names) }))
    where
      at_base : (P : ℕ × ℕ → Type 0) → Names P (b.term ∷ []) → IsSomeAnd x.base (λ (c : Located). Names P (c.term ∷ []) × (b.line ≡ c.line))
      at_base P names = subst (λ (o : Option Located). IsSomeAnd o (λ (c : Located). Names P (c.term ∷ []) × (b.line ≡ c.line))) (sym is) (names, refl)

  module _ (k : ℕ) (l : Located) (there : slice_get x.interfaces k ≡ Some l) where
    interface_lawful : is_lawful d.list l.term ≡ true
    interface_lawful = is_lawful_where d.list l.term
        (λ names. lawful UnknownType l.line (record { place = place; element = x; there = here; shows = inr (inl (record { place = k; element = l; there = there; shows = (names, refl) })) }))
        (λ names. lawful Arity l.line (record { place = place; element = x; there = here; shows = inr (inl (record { place = k; element = l; there = there; shows = (names, refl) })) }))

    interface_valid : x.is_interface ≡ true → is_valid d.list x.params l.term Positive ≡ true
    interface_valid interface = not_false _ (λ misplaced.
        lawful VarianceMisplaced l.line (record { place = place; element = x; there = here; shows = (interface, inr (record { place = k; element = l; there = there; shows = (misplaced, refl) })) }))

  orderly_at : IsOrderly d.list x
  orderly_at = record {
    base = by x.base refl;
    interfaces = λ k e within. interface_lawful k (get_or x.interfaces k e) (slice_get-get_or x.interfaces k e within);
    no_base = λ interface. none x.base refl interface;
    valid = λ interface k e within. interface_valid k (get_or x.interfaces k e) (slice_get-get_or x.interfaces k e within) interface;
  }
    where
      by : (o : Option Located) → x.base ≡ o → IfSome o (λ (b : Located). is_lawful d.list b.term ≡ true)
      by None is = tt
      by (Some b) is = base_lawful b is

      none : (o : Option Located) → x.base ≡ o → x.is_interface ≡ true → x.base ≡ None
      none None is interface = is
      none (Some b) is interface = absurd (lawful BadBase x.line (record { place = place; element = x; there = here; shows = (inl (interface, subst IsSome (sym is) refl), refl) }))

pub orderly : (d : Decls) → AreLawful d → AreOrderly d.list
orderly d lawful name x is = orderly_at d lawful (place_of d.list name) x (place_of-get d.list name ∙ is)
