-- The laws of implementations.
use Rattle.std.proofs.Common.{◌≡◌, ℕ, Bool, true, false, if◌then◌else◌, List, [], ◌∷◌, Option, Some, None, Contains, refl, ap, ◌∙◌, arith}
use Rattle.std.specs.Option.{option_or}
use Rattle.std.proofs.lemmas.List.Elements.{Contains-append_right}
use Rattle.vsd_terms.specs.declared.term.Term.{Term}
use Rattle.vsd_ast.specs.declared.declarations.Decl.{Decl}
use Rattle.vsd_slots.specs.Implementation.{Found, by_name, by_override, found_in, has, implementation, nearest, where_has}
use Rattle.vsd_interfaces.specs.Lineage.{Level}
use Rattle.vsd_methods.specs.Methods.{naming, overriding}
use Rattle.vsd_slots.specs.Deciding.{BaseDecides, IsDeclaredAbove, NameIsNext, OverrideWins}

pub override-wins : OverrideWins
override-wins ds i m l above p is = ap (λ o. option_or (found_in l.type o) (option_or (where_has ds i m l (by_name ds i m l)) (option_or (implementation ds i m above) (where_has ds i m l (nearest ds i m above))))) is

pub name-next : NameIsNext
name-next ds i m l above p none there is =
    ap (λ o. option_or (found_in l.type o) (option_or (where_has ds i m l (by_name ds i m l)) (option_or (implementation ds i m above) (where_has ds i m l (nearest ds i m above))))) none
    ∙ ap (λ b. option_or (if b then by_name ds i m l else None) (option_or (implementation ds i m above) (where_has ds i m l (nearest ds i m above)))) there
    ∙ ap (λ o. option_or (found_in l.type o) (option_or (implementation ds i m above) (where_has ds i m l (nearest ds i m above)))) is

or_none : (o : Option Found) → option_or o None ≡ o
or_none None = refl
or_none (Some x) = refl

pub base-decides : BaseDecides
base-decides ds i m l above none absent =
    ap (λ o. option_or (found_in l.type o) (option_or (where_has ds i m l (by_name ds i m l)) (option_or (implementation ds i m above) (where_has ds i m l (nearest ds i m above))))) none
    ∙ ap (λ b. option_or (if b then by_name ds i m l else None) (option_or (implementation ds i m above) (if b then nearest ds i m above else None))) absent
    ∙ or_none (implementation ds i m above)

-- ---- where the method is declared

abbrev IsAt : List Level → Option Found → Type 0
IsAt levels o = (f : Found) → o ≡ Some f → (l : Level) × Contains levels l × (l.type ≡ f.class)

or-at : (levels : List Level) (a b : Option Found) → IsAt levels a → IsAt levels b → IsAt levels (option_or a b)
or-at levels None b at_a at_b f is = at_b f is
or-at levels (Some x) b at_a at_b f is = at_a f is

own-at : (l : Level) (above : List Level) (place : Option ℕ) → IsAt (l ∷ above) (found_in l.type place)
own-at l above None f is = absurd cc
own-at l above (Some p) f is =
    let same : record { class = l.type; method = p } ≡ f = cc in
    (l, (0, omega arith, refl), ap (λ (g : Found). g.class) same)

if-at : (levels : List Level) (b : Bool) (o : Option Found) → IsAt levels o → IsAt levels (if b then o else None)
if-at levels true o at f is = at f is
if-at levels false o at f is = absurd cc

further : (l : Level) (above : List Level) (o : Option Found) → IsAt above o → IsAt (l ∷ above) o
further l above o at f is =
    let there = at f is in
    (there.0, Contains-append_right (l ∷ []) above there.0 there.1, there.2)

module _ (ds : List Decl) (i : Term) (m : ℕ) where
  nearest-at : (levels : List Level) → IsAt levels (nearest ds i m levels)
  nearest-at [] f is = absurd cc
  nearest-at (l ∷ above) f is = or-at (l ∷ above) (by_name ds i m l) (nearest ds i m above) (own-at l above (naming ds i m l.type)) (further l above (nearest ds i m above) (nearest-at above)) f is

  implementation-at : (levels : List Level) → IsAt levels (implementation ds i m levels)
  implementation-at [] f is = absurd cc
  implementation-at (l ∷ above) f is =
      let named = where_has ds i m l (by_name ds i m l) in
      let far = where_has ds i m l (nearest ds i m above) in
      or-at (l ∷ above) (by_override ds i m l) (option_or named (option_or (implementation ds i m above) far)) (own-at l above (overriding ds i m l.type))
      (or-at (l ∷ above) named (option_or (implementation ds i m above) far) (if-at (l ∷ above) (has l i) (by_name ds i m l) (own-at l above (naming ds i m l.type)))
      (or-at (l ∷ above) (implementation ds i m above) far (further l above (implementation ds i m above) (implementation-at above)) (if-at (l ∷ above) (has l i) (nearest ds i m above) (further l above (nearest ds i m above) (nearest-at above))))) f is

pub declared-above : IsDeclaredAbove
declared-above ds i m levels f is = implementation-at ds i m levels f is
