-- Methods with a root, and what a slot holds in a class.
use Rattle.std.proofs.Common.{◌≡◌, ◌↔◌, IsTrue, true, false, nat_eq, ℕ, zero, suc, ◌<◌, ◌≤◌, inl, inr, List, [], ◌∷◌, length, get_or, Option, Some, None, refl, sym, ap, ◌∙◌, subst, arith}
use Rattle.std.specs.List.{slice_get}
use Rattle.std.proofs.lemmas.Bool.{cases_lt}
use Rattle.std.proofs.lemmas.List.{get_or_past}
use Rattle.std.proofs.lemmas.Option.{get_or_from_slice_get, slice_get-get_or, slice_get_cases, slice_get_within}
use Rattle.std.proofs.lemmas.Bool.{eq-eqb, eqb-true, false≢true}
use Rattle.vsd_terms.specs.declared.term.Term.{Term}
use Rattle.vsd_ast.specs.declared.declarations.Decl.{Decl}
use Rattle.vsd_ast.specs.declared.declarations.Method.{Method}
use Rattle.vsd_ast.specs.Lookup.{Head, named, parameter, built_in, head_of, place_of}
use Rattle.vsd_roots.specs.Methods.{IsMethod}
use Rattle.vsd_roots.specs.Slots.{Climbs, IsRoot, StartsSlot}
use Rattle.vsd_roots.specs.declared.place.Place.{Place}
use Rattle.vsd_roots.proofs.MatchLemmas.{same_place}
use Rattle.vsd_roots.proofs.RootLaws.{root_only}
use Rattle.vsd_types.specs.TypeList.{TypeList}
use Rattle.vsd_types.specs.Types.{type_at, base_of, declaration_of, declaration_of_head, object, place_of_head}
use Rattle.vsd_terms.specs.declared.term.Builtin.TheVariants.{Object}
use Rattle.vsd_types.proofs.BaseLemmas.{head_of-Builtin}
use Rattle.vsd_types.proofs.Declared.{declared-place}
use Rattle.vsd_slots.specs.declared.entries.ClosedMethod.{ClosedMethod}
use Rattle.vsd_interfaces.specs.Lineage.{IsLineage, Level}
use Rattle.vsd_methods.specs.Methods.{methods_in}
use Rattle.vsd_slots.specs.Refusals.{IsMissing, method_count}
use Rattle.vsd_itable.specs.Bodies.{DeclaresNone, HasNoBody, HasRoot, IsUpward, above, further, inherited, itself, top}
use Rattle.vsd_itable.specs.Places.{IsBodyAt, IsLastWith, IsOwnBody}

same_some : {A : Type 0} {x y : A} → Some x ≡ Some y → x ≡ y
same_some e = cc

module _ (ds : List Decl) where
  -- what has a root is a method
  pub root-method : (p root : Place) → IsRoot ds p root → (m : Method) × IsMethod ds p m
  root-method p root is = by is.steps is.climbs is.starts
    where
      by : (n : ℕ) → Climbs ds n p root → StartsSlot ds root → (m : Method) × IsMethod ds p m
      by zero same starts = (starts.method, subst (λ q. IsMethod ds q starts.method) (sym same) starts.is_method)
      by (suc n) climbs starts = (climbs.1.0.method, climbs.1.0.is_method)

  -- a root is told by its two numbers
  pub root-told : (p a b : Place) → IsRoot ds p a → a.decl ≡ b.decl → IsTrue (nat_eq a.method b.method) ↔ IsRoot ds p b
  root-told p a b is decl = (
    λ method. subst (IsRoot ds p) (same_place a b decl (eqb-true a.method b.method method)) is,
    λ other. eq-eqb a.method b.method (ap (λ (q : Place). q.method) (root_only ds p a b is other)),
  )

  pub root-differs : (p a b : Place) → IsRoot ds p a → (a.decl ≡ b.decl → ⊥) → IsRoot ds p b → ⊥
  root-differs p a b is differs other = differs (ap (λ (q : Place). q.decl) (root_only ds p a b is other))

  -- the declaration at the place of a head is the head's
  pub place-declared : (h : Head) (n : ℕ) (d : Decl) → place_of_head ds h ≡ Some n → n < length ds → declaration_of_head ds h ≡ Some (get_or ds n d)
  place-declared (named name) n d is within =
      let same : place_of ds name ≡ n = same_some is in
      declared-place ds name d (subst (λ k. k < length ds) (sym same) within) ∙ ap (λ k. Some (get_or ds k d)) same
  place-declared (parameter p) n d is within = absurd cc
  place-declared (built_in b) n d is within = absurd cc

  -- the declaration of a type that has one stands at its place
  pub declared-stands : (h : Head) (x : Decl) → declaration_of_head ds h ≡ Some x → place_of_head ds h ≡ None → ⊥
  declared-stands (named name) x is none = absurd cc
  declared-stands (parameter p) x is none = absurd cc
  declared-stands (built_in b) x is none = absurd cc

  -- a method with a root is one of the methods of its type's declaration
  pub root-within : (root : Place) (t : Term) (m : ℕ) → HasRoot ds root t m → m < method_count ds t
  root-within root t m has =
      let found = root-method (record { decl = has.decl; method = m }) root has.rooted in
      let method = found.1 in
      let owner = method.owner in
      let within : has.decl < length ds = slice_get_within ds has.decl owner method.declared in
      let at : declaration_of ds t ≡ Some owner = place-declared (head_of t) has.decl owner has.declared within ∙ ap Some (get_or_from_slice_get ds has.decl owner owner method.declared) in
      let inside : m < length owner.methods = slice_get_within owner.methods m found.0 method.listed in
      subst (λ (o : Option Decl). m < length (methods_in o)) (sym at) inside

  -- a type with methods is declared
  pub counted-declared : (t : Term) (m : ℕ) → m < method_count ds t → (x : Decl) × (declaration_of ds t ≡ Some x) × (m < length x.methods)
  counted-declared t m within = by (declaration_of ds t) refl within
    where
      by : (o : Option Decl) → declaration_of ds t ≡ o → m < length (methods_in o) → (x : Decl) × (declaration_of ds t ≡ Some x) × (m < length x.methods)
      by None is less = absurd (omega (arith, less))
      by (Some x) is less = (x, is, less)

  -- a method of a type at the place of the type's declaration
  pub method-at : (t : Term) (n m : ℕ) → place_of_head ds (head_of t) ≡ Some n → n < length ds → m < method_count ds t → (method : Method) × IsMethod ds (record { decl = n; method = m }) method
  method-at t n m is within less =
      let found = counted-declared t m less in
      let x = found.0 in
      let at : Some x ≡ Some (get_or ds n x) = sym found.1 ∙ place-declared (head_of t) n x is within in
      let here : slice_get ds n ≡ Some x = slice_get-get_or ds n x within ∙ sym at in
      elim (slice_get_cases x.methods m).1 [
        | inl there ↦ (there.0, record { owner = x; declared = here; listed = there.2 })
        | inr past ↦ absurd (omega (arith, found.2, past.0))
      ]

  -- where neither a type nor one above it declares a method with this root, none of them does
  pub none-upward : {root : Place} {t u : Term} → HasNoBody ds root t → IsUpward ds t u → (m : ℕ) → HasRoot ds root u m → ⊥
  none-upward {root} (top none top_is) (itself same) m has = none m (subst (λ v. HasRoot ds root v m) same has)
  none-upward (top none top_is) (above b is up) m has = absurd cc
  none-upward {root} (further c none at rest) (itself same) m has = none m (subst (λ v. HasRoot ds root v m) same has)
  none-upward {root} {t} {u} (further c none at rest) (above b is up) m has =
      let same : b ≡ c = same_some (sym is ∙ at) in
      none-upward rest (subst (λ v. IsUpward ds v u) same up) m has

  no_lineage : (o : Option Term) (levels : List Level) (n : ℕ) (l : Level) → o ≡ None → IsLineage ds o levels → slice_get levels n ≡ Some l → ⊥
  no_lineage None [] n l none up at = absurd cc
  no_lineage None (k ∷ levels) n l none up at = up
  no_lineage (Some b) levels n l none up at = absurd cc

  further_up : (t : Term) (k : Level) (levels : List Level) (n : ℕ) (l : Level) → slice_get (k ∷ levels) (suc n) ≡ Some l → IsLineage ds (Some t) (k ∷ levels) → ((b : Term) → base_of ds t ≡ Some b → IsLineage ds (Some b) levels → slice_get levels n ≡ Some l → IsUpward ds t l.type) → IsUpward ds t l.type
  further_up t k levels n l at is next = by (base_of ds t) refl is.2
    where
      by : (o : Option Term) → base_of ds t ≡ o → IsLineage ds o levels → IsUpward ds t l.type
      by None none up = absurd (no_lineage None levels n l refl up at)
      by (Some b) some up = next b some up at

  -- what a lineage lists stands upward
  pub lineage-upward : (t : Term) (levels : List Level) → IsLineage ds (Some t) levels → (n : ℕ) (l : Level) → slice_get levels n ≡ Some l → IsUpward ds t l.type
  lineage-upward t [] is n l at = absurd is
  lineage-upward t (k ∷ levels) is zero l at = let same : k ≡ l = cc in itself (ap (λ (x : Level). x.type) (sym same) ∙ is.0)
  lineage-upward t (k ∷ levels) is (suc n) l at = further_up t k levels n l at is (λ b some up inside. above b some (lineage-upward b levels up n l inside))

  pub method-in : (n m : ℕ) (x : Decl) → slice_get ds n ≡ Some x → m < length x.methods → (method : Method) × IsMethod ds (record { decl = n; method = m }) method
  method-in n m x here less = elim (slice_get_cases x.methods m).1 [
    | inl there ↦ (there.0, record { owner = x; declared = here; listed = there.2 })
    | inr past ↦ absurd (omega (arith, less, past.0))
  ]

  -- the declaration of a type stands at its place
  pub counted-stands : (t : Term) (n : ℕ) → place_of_head ds (head_of t) ≡ Some n → n < length ds → (x : Decl) × (slice_get ds n ≡ Some x) × (method_count ds t ≡ length x.methods)
  counted-stands t n is within = elim (slice_get_cases ds n).1 [
    | inl there ↦ (
        let x = there.0 in
        let at : declaration_of ds t ≡ Some x = place-declared (head_of t) n x is within ∙ ap Some there.3 in
        (x, there.2, ap (λ (o : Option Decl). length (methods_in o)) at)
        )
    | inr past ↦ absurd (omega (arith, within, past.0))
  ]

module _ (c : TypeList) where
  -- from the last method of a declaration to the last of a type
  pub own-is : (t n : ℕ) (root : Place) → t < length c.types → place_of_head c.decls.list (head_of (type_at c.types t)) ≡ Some n → (found : Option ℕ) → IsLastWith c.decls.list n root (method_count c.decls.list (type_at c.types t)) found → IsOwnBody c t root found
  own-is t n root t_in is None none = λ m has.
      let same : has.decl ≡ n = same_some (sym has.declared ∙ is) in
      none m (root-within c.decls.list root (type_at c.types t) m has) (subst (λ k. IsRoot c.decls.list (record { decl = k; method = m }) root) same has.rooted)
  own-is t n root t_in is (Some m) last = (
    record { class = t_in; method = last.0 },
    record {
      rooted = record { decl = n; declared = is; rooted = last.1 };
      last = λ k has.
          let same : has.decl ≡ n = same_some (sym has.declared ∙ is) in
          last.2 k (root-within c.decls.list root (type_at c.types t) k has) (subst (λ d. IsRoot c.decls.list (record { decl = d; method = k }) root) same has.rooted);
    },
  )

  -- what a class without such a method has is what its base has
  pub body-further : (t b : ℕ) (root : Place) → DeclaresNone c.decls.list root (type_at c.types t) → base_of c.decls.list (type_at c.types t) ≡ Some (type_at c.types b) → (found : Option ClosedMethod) → IsBodyAt c b root found → IsBodyAt c t root found
  body-further t b root none is None rest = further (type_at c.types b) none is rest
  body-further t b root none is (Some body) rest = (rest.0, inherited (type_at c.types b) none is rest.1)

  -- a number whose type has methods is listed
  pub counted-listed : (i m : ℕ) → m < method_count c.decls.list (type_at c.types i) → i < length c.types
  counted-listed i m less = elim (cases_lt i (length c.types)) [
    | inl within ↦ within
    | inr past ↦ (
        let at : type_at c.types i ≡ object = get_or_past c.types i object past in
        let none : method_count c.decls.list object ≡ 0 = ap (λ (h : Head). length (methods_in (declaration_of_head c.decls.list h))) (head_of-Builtin Object) in
        absurd (omega (arith, less, ap (method_count c.decls.list) at, none))
        )
  ]

  -- the interface that a class lacks a method of is listed
  pub missing-listed : (t i m : ℕ) → IsMissing c t i m → i < length c.types
  missing-listed t i m missing =
      let lacks = missing.lacks.lacks in
      let same : lacks.interface ≡ type_at c.types i = same_some (sym lacks.stands ∙ missing.stands) in
      counted-listed i m (subst (λ (u : Term). m < method_count c.decls.list u) same lacks.listed)
