-- The interfaces of a class and of those above it: which they are, each once, and in which order.
use Rattle.std.proofs.Common.{◌≡◌, ℕ, zero, suc, inl, inr, Bool, true, false, Contains, List, [], ◌∷◌, ◌++◌, Option, Some, None, refl, sym, ap, ◌∙◌, subst, arith}
use Rattle.std.specs.List.{flat_map, slice_get}
use Rattle.std.proofs.lemmas.List.Elements.{Contains-append_cases, Contains-append_left, Contains-append_right}
use Rattle.std.proofs.lemmas.Option.{slice_get_within}
use Rattle.vsd_terms.specs.declared.term.Term.{Term}
use Rattle.vsd_ast.specs.declared.declarations.Decl.{Decl}
use Rattle.vsd_types.specs.Numbers.{IsDistinct}
use Rattle.vsd_types.specs.Types.{base_of, is_interface_type}
use Rattle.vsd_interfaces.specs.Interfaces.{AreInterfaces, firsts}
use Rattle.vsd_interfaces.specs.Lineage.{IsLineage, Level, all_interfaces}
use Rattle.vsd_interfaces.specs.Reached.{Reaches}
use Rattle.vsd_slots.specs.Refusals.{AreAll}
use Rattle.vsd_interfaces.proofs.FirstLaws.{firsts-append, has-after}
use Rattle.vsd_interfaces.proofs.ReachLaws.{all-distinct, firsts-from, lists-reached, none_has}
use Rattle.vsd_interfaces.proofs.UniqueLaws.{interfaces-unique, lineage-unique}
use Rattle.vsd_itable.specs.Bodies.{IsUpward, above, itself}
use Rattle.vsd_itable.specs.Laws.{ListsUpward, NearestComeFirst}
use Rattle.vsd_itable.proofs.BodyLaws.{lineage-upward}

same_some : {A : Type 0} {x y : A} → Some x ≡ Some y → x ≡ y
same_some e = cc

flat : List Level → List Term
flat levels = flat_map (λ (l : Level). l.interfaces) levels

record HasLevel (levels : List Level) (x : Term) : Type 0 where
  pub place : ℕ
  pub level : Level
  pub there : slice_get levels place ≡ Some level
  pub has : Contains level.interfaces x

further_level : (l : Level) (levels : List Level) (x : Term) → HasLevel levels x → HasLevel (l ∷ levels) x
further_level l levels x is = record { place = suc is.place; level = is.level; there = is.there; has = is.has }

level_from : (levels : List Level) (x : Term) → Contains (flat levels) x → HasLevel levels x
unfolding flat
level_from [] x there = absurd (none_has x there)
level_from (l ∷ levels) x there = elim (Contains-append_cases l.interfaces (flat levels) x there) [
  | inl here ↦ record { place = zero; level = l; there = refl; has = here }
  | inr later ↦ further_level l levels x (level_from levels x later)
]

level_has : (levels : List Level) (n : ℕ) (l : Level) (x : Term) → slice_get levels n ≡ Some l → Contains l.interfaces x → Contains (flat levels) x
unfolding flat
level_has [] n l x at has = absurd (let within = slice_get_within [] n l at in omega (arith, within))
level_has (k ∷ levels) zero l x at has =
    let same : k ≡ l = same_some at in
    Contains-append_left k.interfaces (flat levels) x (subst (λ (o : Level). Contains o.interfaces x) (sym same) has)
level_has (k ∷ levels) (suc n) l x at has = Contains-append_right k.interfaces (flat levels) x (level_has levels n l x at has)

module _ (ds : List Decl) where
  level_interfaces : (o : Option Term) (levels : List Level) → IsLineage ds o levels → (n : ℕ) (l : Level) → slice_get levels n ≡ Some l → AreInterfaces ds l.type l.interfaces
  level_interfaces None [] up n l at = absurd (let within = slice_get_within [] n l at in omega (arith, within))
  level_interfaces None (k ∷ levels) up n l at = absurd up
  level_interfaces (Some t) [] up n l at = absurd up
  level_interfaces (Some t) (k ∷ levels) up zero l at =
      let same : k ≡ l = same_some at in
      subst (λ (o : Level). AreInterfaces ds o.type o.interfaces) same (subst (λ (u : Term). AreInterfaces ds u k.interfaces) (sym up.0) up.1)
  level_interfaces (Some t) (k ∷ levels) up (suc n) l at = level_interfaces (base_of ds t) levels up.2 n l at

  record StandsAt (levels : List Level) (u : Term) : Type 0 where
    pub place : ℕ
    pub level : Level
    pub there : slice_get levels place ≡ Some level
    pub is : level.type ≡ u

  further_up : (l : Level) (levels : List Level) (u : Term) → StandsAt levels u → StandsAt (l ∷ levels) u
  further_up l levels u is = record { place = suc is.place; level = is.level; there = is.there; is = is.is }

  stands : (t u : Term) (levels : List Level) → IsUpward ds t u → IsLineage ds (Some t) levels → StandsAt levels u
  stands t u [] up is = absurd is
  stands t u (l ∷ levels) (itself same) is = record { place = zero; level = l; there = refl; is = is.0 ∙ sym same }
  stands t u (l ∷ levels) (above b at up) is = further_up l levels u (stands b u levels up (subst (λ o. IsLineage ds o levels) at is.2))

  reached : (u : Term) (interfaces : List Term) (x : Term) → AreInterfaces ds u interfaces → Contains interfaces x → (is_interface_type ds u ≡ false) × ((n : ℕ) × Reaches ds n u x)
  reached u interfaces x are has = by (is_interface_type ds u) refl
    where
      by : (b : Bool) → is_interface_type ds u ≡ b → (is_interface_type ds u ≡ false) × ((n : ℕ) × Reaches ds n u x)
      by true is = absurd (none_has x (subst (λ l. Contains l x) (are.other is) has))
      by false is = (is, ((lists-reached ds u interfaces is are).1 x).0 has)

  upward_from : (t : Term) (interfaces : List Term) (i : Term) → AreAll ds t interfaces → Contains interfaces i → (u : Term) × IsUpward ds t u × (is_interface_type ds u ≡ false) × ((n : ℕ) × Reaches ds n u i)
  unfolding flat
  upward_from t interfaces i all has =
      let inside : Contains (flat all.levels) i = firsts-from (flat all.levels) i (subst (λ l. Contains l i) all.all has) in
      let at = level_from all.levels i inside in
      let are = level_interfaces (Some t) all.levels all.lineage at.place at.level at.there in
      let found = reached at.level.type at.level.interfaces i are at.has in
      (at.level.type, lineage-upward ds t all.levels all.lineage at.place at.level at.there, found.0, found.1)

  upward_to : (t : Term) (interfaces : List Term) (i u : Term) → AreAll ds t interfaces → IsUpward ds t u → is_interface_type ds u ≡ false → (n : ℕ) × Reaches ds n u i → Contains interfaces i
  unfolding flat
  upward_to t interfaces i u all up class reaches =
      let at = stands t u all.levels up all.lineage in
      let are : AreInterfaces ds u at.level.interfaces = subst (λ (v : Term). AreInterfaces ds v at.level.interfaces) at.is (level_interfaces (Some t) all.levels all.lineage at.place at.level at.there) in
      let own : Contains at.level.interfaces i = ((lists-reached ds u at.level.interfaces class are).1 i).1 reaches in
      let inside : Contains (flat all.levels) i = level_has all.levels at.place at.level i at.there own in
      subst (λ l. Contains l i) (sym all.all) (has-after [] (flat all.levels) i inside)

none-distinct : IsDistinct []
none-distinct i j t a b = absurd (let within = slice_get_within [] i t a in omega (arith, within))

pub lists-upward : ListsUpward
lists-upward ds t interfaces all = (
  subst IsDistinct (sym all.all) (all-distinct [] (flat_map (λ (l : Level). l.interfaces) all.levels) none-distinct),
  λ i. (upward_from ds t interfaces i all, λ given. upward_to ds t interfaces i given.0 all given.1 given.2 given.3),
)

-- ---- nearest first

own_first : (ds : List Decl) (t b : Term) (own over interfaces : List Term) (levels : List Level) → AreInterfaces ds t own → base_of ds t ≡ Some b → AreAll ds b over
    → IsLineage ds (Some t) levels → interfaces ≡ all_interfaces levels → interfaces ≡ firsts (own ++ over)
own_first ds t b own over interfaces [] are at all up is = absurd up
own_first ds t b own over interfaces (l ∷ levels) are at all up is =
    let same : l.interfaces ≡ own = interfaces-unique ds t l.interfaces own up.1 are in
    let rest : levels ≡ all.levels = lineage-unique ds (Some b) levels all.levels (subst (λ o. IsLineage ds o levels) at up.2) all.lineage in
    let over_is : firsts (flat_map (λ (k : Level). k.interfaces) levels) ≡ over = ap all_interfaces rest ∙ sym all.all in
    is
    ∙ (firsts-append l.interfaces (flat_map (λ (k : Level). k.interfaces) levels)
    ∙ (ap (λ x. firsts (x ++ firsts (flat_map (λ (k : Level). k.interfaces) levels))) same ∙ ap (λ x. firsts (own ++ x)) over_is))

pub nearest-first : NearestComeFirst
nearest-first ds t b own over interfaces are at all is = own_first ds t b own over interfaces is.levels are at all is.lineage is.all
