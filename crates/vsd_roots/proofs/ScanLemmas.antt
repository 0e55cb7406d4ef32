-- The search for abstract bodies, one method further.
use Rattle.std.proofs.Common.{◌≡◌, ℕ, zero, suc, ◌+◌, ◌-◌, ◌*◌, ◌<◌, ◌≤◌, Bool, true, false, not, cond, nat_eq, IsTrue, ◌↔◌, List, length, get_or, refl, sym, ap, ◌∙◌, subst, Some, ◌⊎◌, inl, inr, arith}
use Rattle.std.specs.Bool.{Decides}
use Rattle.std.specs.Cmp.{unsigned_Decides}
use Rattle.std.specs.List.{slice_get}
use Rattle.std.proofs.lemmas.Bool.{cases_lt, cases_order, false≢true}
use Rattle.std.proofs.lemmas.Bool.Decides.{Decides-and}
use Rattle.std.proofs.lemmas.Option.{slice_get-get_or}
use Rattle.vsd_ast.specs.declared.declarations.Decl.{Decl}
use Rattle.vsd_ast.specs.declared.declarations.Method.{Method}
use Rattle.vsd_lift.specs.Settled.{IsSettled}
use Rattle.vsd_lift.proofs.ChainLemmas.{chain-declared}
use Rattle.vsd_roots.specs.Bodies.{AbstractBelow, IsBody, ScansTo, SeenBelow, distance, place_eq}
use Rattle.vsd_roots.specs.Levels.{IsUpward}
use Rattle.vsd_roots.specs.Methods.{IsMethod}
use Rattle.vsd_roots.specs.Slots.{Climbs, IsRoot}
use Rattle.vsd_roots.specs.declared.place.Place.{Place}
use Rattle.vsd_roots.proofs.MatchLemmas.{same_place}
use Rattle.vsd_roots.proofs.RootLaws.{root_only}
use Rattle.vsd_roots.proofs.TableLemmas.{listed_below, method_within, same_method}

pub place_eq-Decides : (a b : Place) → Decides (place_eq a b) (a ≡ b)
place_eq-Decides a b =
    let both = Decides-and (nat_eq a.decl b.decl) (nat_eq a.method b.method) (unsigned_Decides a.decl b.decl) (unsigned_Decides a.method b.method) in
    (λ h. let w = both.0 h in same_place a b w.0 w.1, λ e. both.1 (ap (λ (p : Place). p.decl) e, ap (λ (p : Place). p.method) e))

-- what has a root is a method
pub rooted_method : (ds : List Decl) (p root : Place) → IsRoot ds p root → (m : Method) × IsMethod ds p m
rooted_method ds p root is = by is.steps is.climbs
  where
    by : (n : ℕ) → Climbs ds n p root → (m : Method) × IsMethod ds p m
    by zero same = (is.starts.method, subst (λ (q : Place). IsMethod ds q is.starts.method) (sym same) is.starts.is_method)
    by (suc n) climbs = (climbs.1.0.method, climbs.1.0.is_method)

module _ (ds : List Decl) (places depths chain : List ℕ) (settled : IsSettled ds places depths) (up : IsUpward ds chain) where
  pub scan-start : (seen : Place → Bool) → ((k : Place) → seen k ≡ false) → ScansTo ds chain 0 seen false
  scan-start seen none = record {
    roots = λ root. (λ h. absurd (false≢true (sym (none root) ∙ h)), λ s. absurd (let below = s.below in omega arith));
    bodies = (λ h. absurd (false≢true h), λ a. absurd (let below = a.below in omega arith));
  }

  -- no method is between the bounds
  pub scan-skip : (bound next : ℕ) (seen : Place → Bool) (found : Bool) → bound ≤ next → ((l : ℕ) (r : Place) (m : Method) → slice_get chain l ≡ Some r.decl → IsMethod ds r m → distance l r < next → distance l r < bound) → ScansTo ds chain bound seen found → ScansTo ds chain next seen found
  scan-skip bound next seen found more none before = record {
    roots = λ root. (
      λ h. let s = (before.roots root).0 h in record { level = s.level; place = s.place; method = s.method; is_method = s.is_method; stands = s.stands; below = (let b = s.below in omega arith); rooted = s.rooted },
      λ s. (before.roots root).1 (record { level = s.level; place = s.place; method = s.method; is_method = s.is_method; stands = s.stands; below = none s.level s.place s.method s.stands s.is_method s.below; rooted = s.rooted }),
    );
    bodies = (
      λ h. let a = before.bodies.0 h in record { level = a.level; body = a.body; leaves = a.leaves; below = (let b = a.below in omega arith) },
      λ a. before.bodies.1 (record { level = a.level; body = a.body; leaves = a.leaves; below = none a.level a.body a.leaves.method a.leaves.is_body.stands a.leaves.is_method a.below }),
    );
  }

  -- methods at one distance are one
  one_at : (k l : ℕ) (p q : Place) (m n : Method) → slice_get chain k ≡ Some p.decl → slice_get chain l ≡ Some q.decl → IsMethod ds p m → IsMethod ds q n → distance k p ≡ distance l q → p ≡ q
  one_at k l p q m n at_k at_l is other same =
      let a = method_within ds places depths p m settled is in
      let b = method_within ds places depths q n settled other in
      let a_method = a.method in
      let b_method = b.method in
      let levels : k ≡ l = omega arith in
      let decls : p.decl ≡ q.decl = let both = sym at_k ∙ ap (slice_get chain) levels ∙ at_l in cc in
      same_place p q decls (omega arith)

  module _ (p root : Place) (m : Method) (level bound next : ℕ) (old new : Place → Bool) (found fresh more : Bool) (stands : slice_get chain level ≡ Some p.decl) (is : IsMethod ds p m) (rooted : IsRoot ds p root) (here : distance level p ≡ bound) (one : next ≡ bound + 1) (is_fresh : fresh ≡ not (old root)) (updates : (q : Place) → new q ≡ cond (place_eq root q) true (old q)) (finds : IsTrue more ↔ (IsTrue found ⊎ (IsTrue fresh × IsTrue m.is_abstract))) (before : ScansTo ds chain bound old found) where
    kept : (b c : Bool) → c ≡ true → cond b true c ≡ true
    kept true c e = refl
    kept false c e = e

    added : (k : Place) (same : Bool) → place_eq root k ≡ same → cond same true (old k) ≡ true → SeenBelow ds chain next k
    added k true e h =
        let equal = (place_eq-Decides root k).0 e in
        record { level = level; place = p; method = m; is_method = is; stands = stands; below = omega arith; rooted = subst (λ (r : Place). IsRoot ds p r) equal rooted }
    added k false e h =
        let s = (before.roots k).0 h in
        let b = s.below in
        record { level = s.level; place = s.place; method = s.method; is_method = s.is_method; stands = s.stands; below = omega arith; rooted = s.rooted }

    seen_still : (k : Place) → SeenBelow ds chain next k → cond (place_eq root k) true (old k) ≡ true
    seen_still k s =
        elim (cases_lt (distance s.level s.place) bound) [
          | inl lt ↦ kept (place_eq root k) (old k) ((before.roots k).1 (record { level = s.level; place = s.place; method = s.method; is_method = s.is_method; stands = s.stands; below = lt; rooted = s.rooted }))
          | inr ge ↦ (
              let b = s.below in
              let same = one_at s.level level s.place p s.method m s.stands stands s.is_method is (omega arith) in
              let roots_ = root_only ds p root k rooted (subst (λ (q : Place). IsRoot ds q k) same s.rooted) in
              ap (λ b. cond b true (old k)) ((place_eq-Decides root k).1 roots_)
              )
        ]

    -- a method whose root wasn't seen is the root's body
    body_here : old root ≡ false → IsBody ds chain root level p
    body_here unseen = record {
      stands = stands;
      rooted = rooted;
      nearest = λ l r at other.
          let n = rooted_method ds r root other in
          let a = method_within ds places depths p m settled is in
          let b = method_within ds places depths r n.0 settled n.1 in
          let a_method = a.method in
          let b_method = b.method in
          let far : bound ≤ distance l r = elim (cases_lt (distance l r) bound) [
            | inl lt ↦ absurd (false≢true (sym unseen ∙ (before.roots root).1 (record { level = l; place = r; method = n.0; is_method = n.1; stands = at; below = lt; rooted = other })))
            | inr ge ↦ omega arith
          ] in
          elim (cases_order level l) [
            | inl same ↦ inr (same, omega arith)
            | inr differ ↦ elim differ [ inl lt ↦ inl lt | inr gt ↦ absurd (omega arith) ]
          ];
    }

    unseen_of : (b : Bool) → not b ≡ true → b ≡ false
    unseen_of true h = absurd (false≢true h)
    unseen_of false h = refl

    not_of : (b : Bool) → (b ≡ true → ⊥) → not b ≡ true
    not_of true h = absurd (h refl)
    not_of false h = refl

    found_here : IsTrue more → AbstractBelow ds chain next
    found_here h =
        elim (finds.0 h) [
          | inl earlier ↦ (let a = before.bodies.0 earlier in let b = a.below in record { level = a.level; body = a.body; leaves = a.leaves; below = omega arith })
          | inr both ↦ record {
            level = level;
            body = p;
            leaves = record { root = root; is_body = body_here (unseen_of (old root) (sym is_fresh ∙ both.0)); method = m; is_method = is; abstract = both.1 };
            below = omega arith;
          }
        ]

    found_there : AbstractBelow ds chain next → IsTrue more
    found_there a =
        elim (cases_lt (distance a.level a.body) bound) [
          | inl lt ↦ finds.1 (inl (before.bodies.1 (record { level = a.level; body = a.body; leaves = a.leaves; below = lt })))
          | inr ge ↦ (
              let b = a.below in
              let leaves = a.leaves in
              let level_same : distance a.level a.body ≡ distance level p = omega arith in
              let same = one_at a.level level a.body p leaves.method m leaves.is_body.stands stands leaves.is_method is level_same in
              let methods = same_method ds a.body p leaves.method m (ap (λ (q : Place). q.decl) same) (ap (λ (q : Place). q.method) same) leaves.is_method is in
              let roots_ = root_only ds p leaves.root root (subst (λ (q : Place). IsRoot ds q leaves.root) same leaves.is_body.rooted) rooted in
              let unseen : old root ≡ true → ⊥ = λ h.
              let s = (before.roots root).0 h in
              let near = leaves.is_body.nearest s.level s.place s.stands (subst (λ (r : Place). IsRoot ds s.place r) (sym roots_) s.rooted) in
              let below = s.below in
              let w = method_within ds places depths s.place s.method settled s.is_method in
              let v = method_within ds places depths a.body leaves.method settled leaves.is_method in
              let w_method = w.method in
              let v_method = v.method in
              elim near [ inl lt ↦ omega arith | inr eq ↦ omega (arith, eq.0, eq.1) ]
              in
              finds.1 (inr (is_fresh ∙ not_of (old root) unseen, ap (λ (x : Method). x.is_abstract) (sym methods) ∙ leaves.abstract))
              )
        ]

    pub scan-put : ScansTo ds chain next new more
    scan-put = record {
      roots = λ k. (λ h. added k (place_eq root k) refl (sym (updates k) ∙ h), λ s. updates k ∙ seen_still k s);
      bodies = (found_here, found_there);
    }

  -- before the last method of a class nothing of it is scanned
  pub scan-class_start : (level at : ℕ) (x : Decl) (seen : Place → Bool) (found : Bool) → slice_get chain level ≡ Some at → slice_get ds at ≡ Some x → ScansTo ds chain (level * 256) seen found → ScansTo ds chain (level * 256 + (256 - length x.methods)) seen found
  scan-class_start level at x seen found stands here =
      scan-skip (level * 256) (level * 256 + (256 - length x.methods)) seen found (omega arith)
      (λ l r m at_l is below.
      let w = method_within ds places depths r m settled is in
      let method = w.method in
      elim (cases_order l level) [
        | inl same ↦ (
            let decls : r.decl ≡ at = let both = sym at_l ∙ ap (slice_get chain) same ∙ stands in cc in
            let fewer = listed_below ds at x (length x.methods) here (omega arith) r m decls is in
            absurd (omega arith)
            )
        | inr differ ↦ elim differ [ inl lt ↦ omega arith | inr gt ↦ absurd (omega arith) ]
      ])

  -- the declaration at a level
  pub declared_at : (level : ℕ) → level < length chain → (x : Decl) × (slice_get ds (get_or chain level 0) ≡ Some x)
  declared_at level inside = chain-declared ds places depths up.from chain settled up.within up.chained level (get_or chain level 0) (slice_get-get_or chain level 0 inside)
