-- The latest methods of each name, as methods are put in by rank.
use Rattle.std.proofs.Common.{◌≡◌, ℕ, ◌+◌, ◌-◌, ◌*◌, ◌<◌, ◌≤◌, Bool, true, false, cond, List, length, get_or, refl, sym, ap, ◌∙◌, subst, Option, Some, None, IsSomeAnd, inl, inr, arith}
use Rattle.std.specs.Bool.{Decides}
use Rattle.std.specs.Cmp.{unsigned_Decides}
use Rattle.std.specs.List.{slice_get}
use Rattle.std.proofs.lemmas.Bool.{cases_eq, cases_lt, false≢true}
use Rattle.std.proofs.lemmas.Option.{slice_get_within}
use Rattle.std.proofs.lemmas.Slice.Eq.{slice_eq-Decides}
use denote.Ref.{Bor}
use Rattle.vsd_ast.specs.declared.declarations.Decl.{Decl}
use Rattle.vsd_ast.specs.declared.declarations.Method.{Method}
use Rattle.vsd_lift.specs.Settled.{IsSettled}
use Rattle.vsd_roots.specs.Methods.{IsMethod}
use Rattle.vsd_roots.specs.Order.{AreLatest, IsEarlier, IsLatest, IsLink, IsShallower, method_rank, rank, same_name}
use Rattle.vsd_roots.specs.declared.place.Place.{Place}
use Rattle.vsd_roots.proofs.TableLemmas.{method_within, same_method}

pub same_name-Decides : (a b : Bor (List ℕ)) → Decides (same_name a b) (a.now ≡ b.now)
same_name-Decides a b = slice_eq-Decides unsigned_Decides a.now b.now (same_name a b) refl

module _ (ds : List Decl) (places depths : List ℕ) (settled : IsSettled ds places depths) where
  pub latest-start : (find : Bor (List ℕ) → Option Place) → ((q : Bor (List ℕ)) → find q ≡ None) → AreLatest ds depths 0 find
  latest-start find none = record {
    each = λ q.
        let P : Option Place → Type 0 = λ o. IsLatest ds depths q.now 0 o in
        subst P (sym (none q)) (record { is = tt; latest = λ r m is name below. absurd (omega arith) });
  }

  -- no method has a rank between the bounds
  one-skip : (name : List ℕ) (bound next : ℕ) (o : Option Place) → bound ≤ next → ((r : Place) (m : Method) → IsMethod ds r m → m.name ≡ name → method_rank depths r < next → method_rank depths r < bound) → IsLatest ds depths name bound o → IsLatest ds depths name next o
  one-skip name bound next None more none before = record { is = tt; latest = λ r m is named below. before.latest r m is named (none r m is named below) }
  one-skip name bound next (Some q) more none before =
      let w = before.is in
      record {
        is = (w.0, (w.1.0, (w.1.1.0, omega (arith, w.1.1.1))));
        latest = λ r m is named below. before.latest r m is named (none r m is named below);
      }

  pub latest-skip : (find : Bor (List ℕ) → Option Place) (bound next : ℕ) → bound ≤ next → ((r : Place) (m : Method) → IsMethod ds r m → method_rank depths r < next → method_rank depths r < bound) → AreLatest ds depths bound find → AreLatest ds depths next find
  latest-skip find bound next more none before = record {
    each = λ q. one-skip q.now bound next (find q) more (λ r m is named below. none r m is below) (before.each q);
  }

  -- methods of one rank are one
  pub one_of_rank : (p q : Place) (m n : Method) → method_rank depths p ≡ method_rank depths q → IsMethod ds p m → IsMethod ds q n → (p.decl ≡ q.decl) × (p.method ≡ q.method)
  one_of_rank p q m n same is other =
      let a = method_within ds places depths p m settled is in
      let b = method_within ds places depths q n settled other in
      (omega arith, omega arith)

  -- the method of the rank is put in under its name
  pub latest-put : (old new : Bor (List ℕ) → Option Place) (bound next : ℕ) (p : Place) (m : Method) (k : Bor (List ℕ)) → IsMethod ds p m → method_rank depths p ≡ bound → next ≡ bound + 1 → k.now ≡ m.name → ((q : Bor (List ℕ)) → new q ≡ cond (same_name k q) (Some p) (old q)) → AreLatest ds depths bound old → AreLatest ds depths next new
  latest-put old new bound next p m k is here one key updates before = record {
    each = λ q.
        let P : Option Place → Type 0 = λ o. IsLatest ds depths q.now next o in
        subst P (sym (updates q)) (by q (same_name k q) refl);
  }
    where
      by : (q : Bor (List ℕ)) (same : Bool) → same_name k q ≡ same → IsLatest ds depths q.now next (cond same (Some p) (old q))
      by q true e =
          let name = (same_name-Decides k q).0 e in
          record {
            is = (m, (is, (sym key ∙ name, omega arith)));
            latest = λ r n other named below. omega arith;
          }
      by q false e =
          one-skip q.now bound next (old q) (omega arith)
          (λ r n other named below.
          elim (cases_lt (method_rank depths r) bound) [
            | inl lt ↦ lt
            | inr ge ↦ (
                let ranks : method_rank depths p ≡ method_rank depths r = omega arith in
                let places_ = one_of_rank p r m n ranks is other in
                let methods = same_method ds p r m n places_.0 places_.1 is other in
                absurd (false≢true (sym e ∙ (same_name-Decides k q).1 (key ∙ ap (λ (x : Method). x.name) methods ∙ named)))
                )
          ])
          (before.each q)

  -- ---- the methods of one declaration, from the last to the first

  -- ranks of declarations tell them apart
  pub decl_of_rank : (i j : ℕ) → i < length ds → j < length ds → rank depths i ≡ rank depths j → i ≡ j
  decl_of_rank i j i_in j_in same = let few = settled.few in omega arith

  pub latest-row_start : (find : Bor (List ℕ) → Option Place) (at : ℕ) (x : Decl) → slice_get ds at ≡ Some x → AreLatest ds depths (rank depths at * 256) find → AreLatest ds depths (rank depths at * 256 + (256 - length x.methods)) find
  latest-row_start find at x here =
      latest-skip find (rank depths at * 256) (rank depths at * 256 + (256 - length x.methods)) (omega arith)
      (λ r m is below.
      let w = method_within ds places depths r m settled is in
      let decl = w.decl in
      let method = w.method in
      let few = settled.few in
      let inside = slice_get_within ds at x here in
      elim (cases_eq r.decl at) [
        | inl same ↦ (
            let owners : is.owner ≡ x = let both = sym is.declared ∙ ap (slice_get ds) same ∙ here in cc in
            let listed = slice_get_within is.owner.methods r.method m is.listed in
            let fewer : r.method < length x.methods = omega (arith, listed, ap (λ (y : Decl). length y.methods) owners) in
            absurd (omega (arith, ap (rank depths) same))
            )
        | inr other ↦ (
            elim (cases_lt (rank depths r.decl) (rank depths at)) [
              | inl lt ↦ omega arith
              | inr ge ↦ absurd (other (decl_of_rank r.decl at w.declared inside (omega arith)))
            ]
            )
      ])

  -- the link of the method that is put in
  pub IsLink-put : (find : Bor (List ℕ) → Option Place) (bound : ℕ) (p : Place) (m : Method) (k : Bor (List ℕ)) (before : Option Place) → IsMethod ds p m → method_rank depths p ≡ bound → k.now ≡ m.name → before ≡ find k → AreLatest ds depths bound find → IsLink ds depths p before
  IsLink-put find bound p m k before is here key found latest =
      let P : List ℕ → ℕ → Option Place → Type 0 = λ name n o. IsLatest ds depths name n o in
      record {
        method = m;
        is_method = is;
        latest = subst (λ (o : Option Place). P m.name (method_rank depths p) o) (sym found) (subst (λ (n : ℕ). P m.name n (find k)) (sym here) (subst (λ (name : List ℕ). P name bound (find k)) key (latest.each k)));
      }

  -- what comes before a declaration, by what comes before one of its methods
  pub earlier-step : (p : Place) (m : Method) (before found : Option Place) (row : List (Option Place)) → IsMethod ds p m → IsLink ds depths p before
      → ((q : Place) (n : Method) → q.decl ≡ p.decl → p.method < q.method → IsMethod ds q n → IsSomeAnd (slice_get row q.method) (IsEarlier ds depths q))
      → ((q : Place) → before ≡ Some q → q.decl ≡ p.decl → slice_get row q.method ≡ Some found)
      → (((q : Place) → before ≡ Some q → q.decl ≡ p.decl → ⊥) → found ≡ before)
      → IsEarlier ds depths p found
  earlier-step p m None found row is link done own other =
      let none : found ≡ None = other (λ q e. absurd cc) in
      let within = method_within ds places depths p link.method settled link.is_method in
      let limit = within.method in
      let P : Option Place → Type 0 = λ o. IsEarlier ds depths p o in
      subst P (sym none) (record {
        method = link.method;
        is_method = link.is_method;
        latest = record { is = tt; latest = λ r n isr name below. link.latest.latest r n isr name (omega arith) };
      })
  earlier-step p m (Some q) found row is link done own other =
      let w = link.latest.is in
      let below = w.1.1.1 in
      let a = method_within ds places depths p link.method settled link.is_method in
      let b = method_within ds places depths q w.0 settled w.1.0 in
      let a_method = a.method in
      let b_method = b.method in
      elim (cases_eq q.decl p.decl) [
        | inl same ↦ (
            let ranks : rank depths q.decl ≡ rank depths p.decl = ap (rank depths) same in
            let later : p.method < q.method = omega arith in
            let e : IsEarlier ds depths q found = subst (λ (o : Option (Option Place)). IsSomeAnd o (IsEarlier ds depths q)) (own q refl same) (done q w.0 same later w.1.0) in
            let one = same_method ds q q e.method w.0 refl refl e.is_method w.1.0 in
            let P : List ℕ → ℕ → Type 0 = λ name n. IsLatest ds depths name (n * 256) found in
            record {
              method = link.method;
              is_method = link.is_method;
              latest = subst (λ (n : ℕ). P link.method.name n) ranks (subst (λ (name : List ℕ). P name (rank depths q.decl)) (ap (λ (x : Method). x.name) one ∙ w.1.1.0) e.latest);
            }
            )
        | inr differ ↦ (
            let kept : found ≡ Some q = other (λ r e decl. differ (let one : q ≡ r = cc in ap (λ (x : Place). x.decl) one ∙ decl)) in
            let lower : rank depths q.decl < rank depths p.decl = elim (cases_lt (rank depths q.decl) (rank depths p.decl)) [
              | inl lt ↦ lt
              | inr ge ↦ absurd (differ (decl_of_rank q.decl p.decl b.declared a.declared (omega arith)))
            ] in
            let P : Option Place → Type 0 = λ o. IsEarlier ds depths p o in
            subst P (sym kept) (record {
              method = link.method;
              is_method = link.is_method;
              latest = record {
                is = (w.0, (w.1.0, (w.1.1.0, omega arith)));
                latest = λ r n isr name under. link.latest.latest r n isr name (omega arith);
              };
            })
            )
      ]

  -- what is found of a name, where the methods of the less deep declarations are in
  pub IsShallower-found : (find : Bor (List ℕ) → Option Place) (bound : ℕ) (p : Place) (m : Method) (k : Bor (List ℕ)) (before : Option Place) → IsMethod ds p m → 1024 * get_or depths p.decl 0 * 256 ≡ bound → k.now ≡ m.name → before ≡ find k → AreLatest ds depths bound find → IsShallower ds depths p before
  IsShallower-found find bound p m k before is here key found latest =
      let P : List ℕ → ℕ → Option Place → Type 0 = λ name n o. IsLatest ds depths name n o in
      record {
        method = m;
        is_method = is;
        latest = subst (λ (o : Option Place). P m.name (1024 * get_or depths p.decl 0 * 256) o) (sym found) (subst (λ (n : ℕ). P m.name n (find k)) (sym here) (subst (λ (name : List ℕ). P name bound (find k)) key (latest.each k)));
      }

  pub latest-skip_ranks : (find : Bor (List ℕ) → Option Place) (bound next : ℕ) → bound ≤ next → ((i : ℕ) → i < length ds → rank depths i < next → rank depths i < bound) → AreLatest ds depths (bound * 256) find → AreLatest ds depths (next * 256) find
  latest-skip_ranks find bound next more none =
      latest-skip find (bound * 256) (next * 256) (omega arith)
      (λ r m is below.
      let w = method_within ds places depths r m settled is in
      let lower = none r.decl w.declared (omega arith) in
      omega arith)
