-- What is selected is one method, of the type or one above it.
use Rattle.std.proofs.Common.{◌≡◌, ℕ, ◌<◌, ◌≤◌, inl, inr, Contains, List, Option, Some, None, refl, sym, ap, ◌∙◌, subst, arith}
use Rattle.std.specs.List.{slice_get}
use Rattle.std.proofs.lemmas.Option.{get_or_from_slice_get, slice_get_within}
use Rattle.vsd_terms.specs.declared.term.Term.{Term}
use Rattle.vsd_ast.specs.declared.declarations.Decl.{Decl}
use Rattle.vsd_roots.specs.Slots.{IsRoot}
use Rattle.vsd_roots.specs.declared.place.Place.{Place}
use Rattle.vsd_roots.proofs.RootLaws.{root_only}
use Rattle.vsd_slots.specs.Implementation.{Found, IsImplementation}
use Rattle.vsd_slots.specs.Refusals.{AreAll, method_count}
use Rattle.vsd_slots.proofs.SlotLaws.{all-unique, implementation-unique}
use Rattle.vsd_itable.specs.Bodies.{HasRoot, IsBody, IsLast, IsUpward, above, declared, inherited, itself}
use Rattle.vsd_itable.specs.Matching.{IsFirstThatSuits, IsMatch, IsMatchAmong, Suits}
use Rattle.vsd_itable.proofs.BodyLaws.{root-within}
use Rattle.vsd_itable.specs.Selection.{IsBodyFor, IsImplementedBy, IsSelection}

same_some : {A : Type 0} {x y : A} → Some x ≡ Some y → x ≡ y
same_some e = cc

module _ (ds : List Decl) where
  -- ---- one answer

  first-only : (j : Term) (interfaces : List Term) (a b : Term) → IsFirstThatSuits ds j interfaces a → IsFirstThatSuits ds j interfaces b → a ≡ b
  first-only j interfaces a b one other =
      let same : one.place ≡ other.place = omega (arith, one.first other.place b other.stands other.suits, other.first one.place a one.stands one.suits) in
      same_some (sym one.stands ∙ ap (slice_get interfaces) same ∙ other.stands)

  none-or-some : (j : Term) (interfaces : List Term) (b : Term) → IsMatchAmong ds j interfaces None → IsMatchAmong ds j interfaces (Some b) → ⊥
  none-or-some j interfaces b none some =
      elim some [
        | inl exact ↦ none.0 exact.0
        | inr first ↦ none.1 b (first.1.place, slice_get_within interfaces first.1.place b first.1.stands, get_or_from_slice_get interfaces first.1.place b b first.1.stands) first.1.suits
      ]

  among-only : (j : Term) (interfaces : List Term) (a b : Option Term) → IsMatchAmong ds j interfaces a → IsMatchAmong ds j interfaces b → a ≡ b
  among-only j interfaces None None one other = refl
  among-only j interfaces None (Some b) one other = absurd (none-or-some j interfaces b one other)
  among-only j interfaces (Some a) None one other = absurd (none-or-some j interfaces a other one)
  among-only j interfaces (Some a) (Some b) one other =
      elim one [
        | inl exact ↦ elim other [
          | inl same ↦ ap Some (exact.1 ∙ sym same.1)
          | inr first ↦ absurd (first.0 exact.0)
        ]
        | inr first ↦ elim other [
          | inl same ↦ absurd (first.0 same.0)
          | inr second ↦ ap Some (first-only j interfaces a b first.1 second.1)
        ]
      ]

  match-only : (t j : Term) (a b : Option Term) → IsMatch ds t j a → IsMatch ds t j b → a ≡ b
  match-only t j a b one other =
      let same = all-unique ds t one.interfaces other.interfaces one.all other.all in
      among-only j other.interfaces a b (subst (λ l. IsMatchAmong ds j l a) same one.among) other.among

  found_same : (a b : Found) → a.class ≡ b.class → a.method ≡ b.method → a ≡ b
  found_same a b c m = ap (λ (t : Term). record { class = t; method = a.method }) c ∙ ap (λ (n : ℕ). record { class = b.class; method = n }) m

  body-only : {root : Place} {t : Term} {a b : Found} → IsBody ds root t a → IsBody ds root t b → a ≡ b
  body-only {root} {t} {a} {b} (declared is last) (declared other end) =
      found_same a b (is ∙ sym other) (omega (arith, last.last b.method end.rooted, end.last a.method last.rooted))
  body-only {root} {t} {a} {b} (declared is last) (inherited c none at rest) = absurd (none a.method last.rooted)
  body-only {root} {t} {a} {b} (inherited c none at rest) (declared is last) = absurd (none b.method last.rooted)
  body-only {root} {t} {a} {b} (inherited c none at rest) (inherited d nothing is body) =
      let same : c ≡ d = same_some (sym at ∙ is) in
      body-only (subst (λ u. IsBody ds root u a) same rest) body

  root-one : (t : Term) (m : ℕ) (r s : Place) → HasRoot ds r t m → HasRoot ds s t m → r ≡ s
  root-one t m r s a b =
      let same : a.decl ≡ b.decl = same_some (sym a.declared ∙ b.declared) in
      root_only ds (record { decl = b.decl; method = m }) r s (subst (λ n. IsRoot ds (record { decl = n; method = m }) r) same a.rooted) b.rooted

  body-for-only : (t : Term) (method : Option Found) (a b : Option Found) → IsBodyFor ds t method a → IsBodyFor ds t method b → a ≡ b
  body-for-only t None a b one other = one ∙ sym other
  body-for-only t (Some f) None b one other = absurd one
  body-for-only t (Some f) (Some a) None one other = absurd other
  body-for-only t (Some f) (Some a) (Some b) one other =
      let same = root-one f.class f.method one.root other.root one.rooted other.rooted in
      ap Some (body-only (subst (λ r. IsBody ds r t a) same one.holds) other.holds)

  implemented-only : (t : Term) (m : ℕ) (i : Option Term) (a b : Option Found) → IsImplementedBy ds t m i a → IsImplementedBy ds t m i b → a ≡ b
  implemented-only t m None a b one other = one ∙ sym other
  implemented-only t m (Some i) a b one other = implementation-unique ds t i m a b one other

  pub selection-only : (t j : Term) (m : ℕ) (a b : Option Found) → IsSelection ds t j m a → IsSelection ds t j m b → a ≡ b
  selection-only t j m a b one other =
      let answering = match-only t j one.answering other.answering one.matches other.matches in
      let first = subst (λ i. IsImplementedBy ds t m i one.method) answering one.implements in
      let method = implemented-only t m other.answering one.method other.method first other.implements in
      body-for-only t other.method a b (subst (λ f. IsBodyFor ds t f a) method one.body) other.body

  -- ---- where it is declared

  pub body-upward : {root : Place} {t : Term} {body : Found} → IsBody ds root t body → IsUpward ds t body.class
  body-upward (declared is last) = itself is
  body-upward (inherited b none at rest) = above b at (body-upward rest)

  body-rooted : {root : Place} {t : Term} {body : Found} → IsBody ds root t body → HasRoot ds root body.class body.method
  body-rooted {root} {t} {body} (declared is last) = subst (λ u. HasRoot ds root u body.method) (sym is) last.rooted
  body-rooted (inherited b none at rest) = body-rooted rest

  chosen : (t : Term) (method : Option Found) (f : Found) → IsBodyFor ds t method (Some f) → IsUpward ds t f.class × (f.method < method_count ds f.class)
  chosen t None f is = absurd cc
  chosen t (Some g) f is = (body-upward is.holds, root-within ds is.root f.class f.method (body-rooted is.holds))

  pub declared-upward : (t j : Term) (m : ℕ) (f : Found) → IsSelection ds t j m (Some f) → IsUpward ds t f.class × (f.method < method_count ds f.class)
  declared-upward t j m f is = chosen t is.method f is.body

  -- ---- which interface answers

  among-exact : (j : Term) (interfaces : List Term) (found : Option Term) → Contains interfaces j → IsMatchAmong ds j interfaces found → found ≡ Some j
  among-exact j interfaces None has is = absurd (is.0 has)
  among-exact j interfaces (Some i) has is = elim is [
    | inl exact ↦ ap Some exact.1
    | inr first ↦ absurd (first.0 has)
  ]

  pub exact-answers : (t j : Term) (interfaces : List Term) (found : Option Term) → AreAll ds t interfaces → Contains interfaces j → IsMatch ds t j found → found ≡ Some j
  exact-answers t j interfaces found all has is =
      among-exact j interfaces found has (subst (λ l. IsMatchAmong ds j l found) (all-unique ds t is.interfaces interfaces is.all all) is.among)

  among-none : (j : Term) (interfaces : List Term) (found : Option Term) → (Contains interfaces j → ⊥) → ((i : Term) → Contains interfaces i → Suits ds j i → ⊥) → IsMatchAmong ds j interfaces found → found ≡ None
  among-none j interfaces None absent unfit is = refl
  among-none j interfaces (Some i) absent unfit is = absurd (none-or-some j interfaces i (absent, unfit) is)

  none-left : (t : Term) (m : ℕ) (method found : Option Found) → method ≡ None → IsBodyFor ds t method found → found ≡ None
  none-left t m None found is body = body
  none-left t m (Some f) found is body = absurd cc

  pub missing-unanswered : (t j : Term) (m : ℕ) (interfaces : List Term) (found : Option Found) → AreAll ds t interfaces → (Contains interfaces j → ⊥) → ((i : Term) → Contains interfaces i → Suits ds j i → ⊥) → IsSelection ds t j m found → found ≡ None
  missing-unanswered t j m interfaces found all absent unfit is =
      let here = subst (λ l. IsMatchAmong ds j l is.answering) (all-unique ds t is.matches.interfaces interfaces is.matches.all all) is.matches.among in
      let none = among-none j interfaces is.answering absent unfit here in
      none-left t m is.method found (subst (λ i. IsImplementedBy ds t m i is.method) none is.implements) is.body

  some_left : (t : Term) (f : Found) (found : Option Found) → IsBodyFor ds t (Some f) found → (b : Found) × (found ≡ Some b)
  some_left t f None body = absurd body
  some_left t f (Some b) body = (b, refl)

  pub selected-where : (t j i : Term) (m : ℕ) (f : Found) (found : Option Found) → IsMatch ds t j (Some i) → IsImplementation ds t i m (Some f) → IsSelection ds t j m found → (b : Found) × (found ≡ Some b)
  selected-where t j i m f found matches implements is =
      let answering = match-only t j is.answering (Some i) is.matches matches in
      let same = implemented-only t m (Some i) is.method (Some f) (subst (λ o. IsImplementedBy ds t m o is.method) answering is.implements) implements in
      some_left t f found (subst (λ o. IsBodyFor ds t o found) same is.body)
