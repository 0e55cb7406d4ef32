-- The overrides so far, by owner and method.
use Rattle.std.proofs.Common.{◌≡◌, ℕ, ◌+◌, Bool, true, false, IsTrue, ◌&&◌, not, cond, nat_eq, List, Option, Some, None, is_none, ◌⊎◌, inl, inr, ◌↔◌, refl, sym, ap, ◌∙◌, subst, arith}
use Rattle.std.specs.Bool.{Decides}
use Rattle.std.specs.Cmp.{unsigned_Decides}
use Rattle.std.specs.List.{slice_get}
use Rattle.std.proofs.lemmas.Bool.{cases_lt, false≢true}
use Rattle.std.proofs.lemmas.Bool.Decides.{Decides-and}
use Rattle.vsd_terms.specs.declared.term.Term.{Term}
use Rattle.vsd_terms.specs.Equality.{term_eq, term_eq-Decides}
use Rattle.vsd_ast.specs.declared.declarations.Decl.{Decl}
use Rattle.vsd_ast.specs.declared.declarations.Override.{Override}
use Rattle.vsd_overrides.specs.Conditions.{IsImplemented, Repeats}
use Rattle.vsd_overrides.specs.Implements.{Implements}
use Rattle.vsd_overrides.specs.Targets.{ImplementsNothing, IsTarget}
use Rattle.vsd_overrides.specs.declared.conditions.Key.{Key}
use Rattle.vsd_overrides.specs.declared.target.Target.{Target}
use Rattle.vsd_overrides.proofs.MeaningLemmas.{means_slot}

-- what `==` of two keys computes
abbrev pub key_eq : Key → Key → Bool
key_eq a b = term_eq a.owner.now b.owner.now && nat_eq a.slot b.slot

abbrev pub SameKey : Key → Key → Type 0
SameKey a b = (a.owner.now ≡ b.owner.now) × (a.slot ≡ b.slot)

pub key_eq-Decides : (a b : Key) → Decides (key_eq a b) (SameKey a b)
key_eq-Decides a b = Decides-and _ _ (term_eq-Decides a.owner.now b.owner.now) (unsigned_Decides a.slot b.slot)

module _ (ds : List Decl) (decl : ℕ) (x : Decl) where
  -- what is found of an override tells whether it implements nothing
  pub nothing-Decides : (o : Override) (found : Option Target) → IsTarget ds decl x o found → IsTrue (is_none found) ↔ ImplementsNothing ds decl x o
  nothing-Decides o None none = (λ _. none, λ _. refl)
  nothing-Decides o (Some t) is = (λ e. absurd (false≢true e), λ none. absurd (none t is))

  implemented-start : (owner : Term) (slot : ℕ) → IsImplemented ds decl x 0 owner slot → ⊥
  implemented-start owner slot w = omega (arith, w.before)

  implemented-later : (i : ℕ) (owner : Term) (slot : ℕ) → IsImplemented ds decl x i owner slot → IsImplemented ds decl x (i + 1) owner slot
  implemented-later i owner slot w = record { earlier = w.earlier; before = omega (arith, w.before); other = w.other; there = w.there; target = w.target; implements = w.implements; owner = w.owner; slot = w.slot }

  implemented-here : (i : ℕ) (o : Override) (t : Target) (owner : Term) (slot : ℕ) → slice_get x.overrides i ≡ Some o → Implements ds decl x o t → o.owner ≡ owner → t.slot ≡ slot → IsImplemented ds decl x (i + 1) owner slot
  implemented-here i o t owner slot here is owners slots = record { earlier = i; before = omega arith; other = o; there = here; target = t; implements = is; owner = owners; slot = slots }

  -- the override at the last place is the one that is meant
  last : (i : ℕ) (o : Override) (owner : Term) (slot : ℕ) → slice_get x.overrides i ≡ Some o → IsImplemented ds decl x (i + 1) owner slot → IsImplemented ds decl x i owner slot ⊎ ((u : Target) × (Implements ds decl x o u × ((o.owner ≡ owner) × (u.slot ≡ slot))))
  last i o owner slot here w =
      elim (cases_lt w.earlier i) [
        | inl lt ↦ inl (record { earlier = w.earlier; before = lt; other = w.other; there = w.there; target = w.target; implements = w.implements; owner = w.owner; slot = w.slot })
        | inr ge ↦ (
            let at_end : w.earlier ≡ i = omega (arith, w.before) in
            let same : w.other ≡ o = let both = sym w.there ∙ ap (slice_get x.overrides) at_end ∙ here in cc in
            inr (w.target, (subst (λ (p : Override). Implements ds decl x p w.target) same w.implements, (ap (λ (p : Override). p.owner) (sym same) ∙ w.owner, w.slot)))
            )
      ]

  -- the keys that a test finds are those of the overrides before place i that implement something
  pub record AreSeen (i : ℕ) (test : Key → Bool) : Type 0 where
    pub each : (q : Key) → Decides (test q) (IsImplemented ds decl x i q.owner.now q.slot)

  pub seen-start : (test : Key → Bool) → ((q : Key) → test q ≡ false) → AreSeen 0 test
  seen-start test none = record { each = λ q. (λ h. absurd (false≢true (sym (none q) ∙ h)), λ w. absurd (implemented-start q.owner.now q.slot w)) }

  -- an override that implements nothing is passed over
  pub seen-skip : (i : ℕ) (o : Override) (test : Key → Bool) → slice_get x.overrides i ≡ Some o → ImplementsNothing ds decl x o → AreSeen i test → AreSeen (i + 1) test
  seen-skip i o test here none before = record {
    each = λ q. (
      λ h. implemented-later i q.owner.now q.slot ((before.each q).0 h),
      λ w. elim (last i o q.owner.now q.slot here w) [ inl early ↦ (before.each q).1 early | inr u ↦ absurd (none u.0 u.1.0) ],
    );
  }

  pub seen-put : (i : ℕ) (o : Override) (t : Target) (k : Key) (old new : Key → Bool) → slice_get x.overrides i ≡ Some o → Implements ds decl x o t → k.owner.now ≡ o.owner → k.slot ≡ t.slot → ((q : Key) → new q ≡ cond (key_eq k q) true (old q)) → AreSeen i old → AreSeen (i + 1) new
  seen-put i o t k old new here is owner slot updates before = record {
    each = λ q. (
      λ h. found q (key_eq k q) refl (sym (updates q) ∙ h),
      λ w. updates q ∙ elim (last i o q.owner.now q.slot here w) [
        | inl early ↦ any (key_eq k q) (old q) ((before.each q).1 early)
        | inr u ↦ (
            let slots : t.slot ≡ u.0.slot = means_slot ds x o t u.0 is.means u.1.0.means in
            ap (λ b. cond b true (old q)) ((key_eq-Decides k q).1 (owner ∙ u.1.1.0, slot ∙ slots ∙ u.1.1.1))
            )
      ],
    );
  }
    where
      any : (b c : Bool) → c ≡ true → cond b true c ≡ true
      any true c e = refl
      any false c e = e

      found : (q : Key) (b : Bool) → key_eq k q ≡ b → cond b true (old q) ≡ true → IsImplemented ds decl x (i + 1) q.owner.now q.slot
      found q true e h = let same = (key_eq-Decides k q).0 e in implemented-here i o t q.owner.now q.slot here is (sym owner ∙ same.0) (sym slot ∙ same.1)
      found q false e h = implemented-later i q.owner.now q.slot ((before.each q).0 h)

  -- a key that isn't new is that of an override that repeats an earlier one
  pub seen-known : (i : ℕ) (o : Override) (t : Target) (k : Key) (test : Key → Bool) (new : Bool) → Implements ds decl x o t → k.owner.now ≡ o.owner → k.slot ≡ t.slot → new ≡ not (test k) → AreSeen i test → IsTrue (not new) ↔ Repeats ds decl x i o
  seen-known i o t k test new is owner slot fresh seen = (
    λ h.
        let w = (seen.each k).0 (twice (test k) ∙ ap not (sym fresh) ∙ h) in
        record { target = t; implements = is; implemented = at k.owner.now o.owner k.slot t.slot owner slot w },
    λ r.
        let slots : r.target.slot ≡ t.slot = means_slot ds x o r.target t r.implements.means is.means in
        ap not fresh ∙ sym (twice (test k)) ∙ (seen.each k).1 (at o.owner k.owner.now r.target.slot k.slot (sym owner) (slots ∙ sym slot) r.implemented),
  )
    where
      twice : (b : Bool) → b ≡ not (not b)
      twice true = refl
      twice false = refl

      at : (a b : Term) (m n : ℕ) → a ≡ b → m ≡ n → IsImplemented ds decl x i a m → IsImplemented ds decl x i b n
      at a b m n p q w = subst (λ (l : ℕ). IsImplemented ds decl x i b l) q (subst (λ (u : Term). IsImplemented ds decl x i u m) p w)

  -- an override that implements nothing repeats none
  pub nothing-repeats : (i : ℕ) (o : Override) → ImplementsNothing ds decl x o → Repeats ds decl x i o → ⊥
  nothing-repeats i o none r = none r.target r.implements
