-- Lists that grow at their end: methods by their numbers, and targets by type and token.
use Rattle.std.proofs.Common.{◌≡◌, ℕ, zero, suc, ◌+◌, ◌-◌, ◌*◌, lit<, ◌<◌, ◌≤◌, ◌^◌, inl, inr, All, List, [], ◌∷◌, ◌++◌, length, get_or, Some, refl, sym, ap, ◌∙◌, subst, arith}
use Rattle.std.specs.List.{slice_get}
use Rattle.std.proofs.lemmas.Bool.{cases_lt}
use Rattle.std.proofs.lemmas.List.{get_or_append_left, get_or_past, get_or_push, length-append}
use Rattle.std.proofs.lemmas.Nat.{mul-add-lt}
use Rattle.std.proofs.Math.Nat.{suc-mul}
use Rattle.std.proofs.lemmas.Option.{get_or_from_slice_get, slice_get-get_or, slice_get_cases, slice_get_within}
use Rattle.vsd_types.specs.TypeList.{TypeList}
use Rattle.vsd_types.specs.Types.{type_at}
use Rattle.vsd_slots.specs.Refusals.{method_count}
use Rattle.vsd_slots.specs.declared.entries.ClosedMethod.{ClosedMethod}
use Rattle.vsd_itable.specs.Filling.{AddsTargets, AreTargetsTo, IsTargetAt}
use Rattle.vsd_itable.specs.Numbering.{AddsMethods, AreNumberedTo}
use Rattle.vsd_itable.specs.Tables.{IsListed}

-- an element that is there, whatever stands for those that are not
pub read_any : {A : Type 0} (xs : List A) (i : ℕ) (d e : A) → i < length xs → get_or xs i d ≡ get_or xs i e
read_any xs i d e within =
    let a = slice_get-get_or xs i d within in
    let b = slice_get-get_or xs i e within in
    cc

-- ---- an element more

push-length : {A : Type 0} (xs : List A) (x : A) → length (xs ++ x ∷ []) ≡ length xs + 1
push-length xs x = length-append xs (x ∷ [])

push-kept : {A : Type 0} (xs : List A) (x : A) (n : ℕ) → n < length xs → slice_get (xs ++ x ∷ []) n ≡ slice_get xs n
push-kept xs x n within =
    let long : n < length (xs ++ x ∷ []) = omega (arith, within, push-length xs x) in
    slice_get-get_or (xs ++ x ∷ []) n x long ∙ ap Some (get_or_append_left xs (x ∷ []) x n within) ∙ sym (slice_get-get_or xs n x within)

push-last : {A : Type 0} (xs : List A) (x : A) (n : ℕ) → length xs ≡ n → slice_get (xs ++ x ∷ []) n ≡ Some x
push-last xs x n is =
    let long : n < length (xs ++ x ∷ []) = omega (arith, is, push-length xs x) in
    slice_get-get_or (xs ++ x ∷ []) n x long ∙ ap Some (get_or_push xs x x n is)

-- ---- methods

pub adds-none : (t : ℕ) (old : List ClosedMethod) → AddsMethods t 0 old old
adds-none t old = record { long = omega arith; kept = λ n within. refl; added = λ m within. absurd (omega (arith, within)) }

pub adds-push : (t n : ℕ) (old mid new : List ClosedMethod) → AddsMethods t n old mid → new ≡ mid ++ record { class = t; method = n } ∷ [] → AddsMethods t (n + 1) old new
adds-push t n old mid new before is =
    let x : ClosedMethod = record { class = t; method = n } in
    record {
      long = ap length is ∙ push-length mid x ∙ omega (arith, before.long);
      kept = λ k within. ap (λ (l : List ClosedMethod). slice_get l k) is ∙ push-kept mid x k (omega (arith, within, before.long)) ∙ before.kept k within;
      added = λ m within. elim (cases_lt m n) [
        | inl low ↦ ap (λ (l : List ClosedMethod). slice_get l (length old + m)) is ∙ push-kept mid x (length old + m) (omega (arith, low, before.long)) ∙ before.added m low
        | inr high ↦ (
            let same : n ≡ m = omega (arith, within, high) in
            ap (λ (l : List ClosedMethod). slice_get l (length old + m)) is ∙ push-last mid x (length old + m) (omega (arith, before.long, same)) ∙ ap (λ k. Some (record { class = t; method = k })) same
            )
      ];
    }

module _ (c : TypeList) where
  pub numbered-none : AreNumberedTo c 0 [] []
  numbered-none = record { starts_count = refl; few = omega arith; listed = λ k d within. absurd (omega (arith, within)); each = λ t m within less. absurd (omega (arith, within)) }

  pub numbered-more : (t : ℕ) (methods new : List ClosedMethod) (starts new_starts : List ℕ) → t < length c.types → method_count c.decls.list (type_at c.types t) ≤ 256 → AreNumberedTo c t methods starts → AddsMethods t (method_count c.decls.list (type_at c.types t)) methods new → new_starts ≡ starts ++ length methods ∷ [] → AreNumberedTo c (t + 1) new new_starts
  numbered-more t methods new starts new_starts t_in few before adds is =
      let count = method_count c.decls.list (type_at c.types t) in
      record {
        starts_count = ap length is ∙ push-length starts (length methods) ∙ omega (arith, before.starts_count);
        few = omega (arith, before.few, adds.long, few);
        listed = λ k d within. elim (cases_lt k (length methods)) [
          | inl low ↦ (
              let at : slice_get new k ≡ Some (get_or methods k d) = adds.kept k low ∙ slice_get-get_or methods k d low in
              subst (IsListed c) (sym (get_or_from_slice_get new k (get_or methods k d) d at)) (before.listed k d low)
              )
          | inr high ↦ (
              let m = k - length methods in
              let less : m < count = omega (arith, high, within, adds.long) in
              let place : length methods + m ≡ k = omega (arith, high) in
              let at : slice_get new k ≡ Some (record { class = t; method = m }) = ap (slice_get new) (sym place) ∙ adds.added m less in
              subst (IsListed c) (sym (get_or_from_slice_get new k (record { class = t; method = m }) d at)) (record { class = t_in; method = less })
              )
        ];
        each = λ u m within less. elim (cases_lt u t) [
          | inl low ↦ (
              let read : get_or new_starts u 0 ≡ get_or starts u 0 = ap (λ (l : List ℕ). get_or l u 0) is ∙ get_or_append_left starts (length methods ∷ []) 0 u (omega (arith, low, before.starts_count)) in
              let one = before.each u m low less in
              let inside = slice_get_within methods (get_or starts u 0 + m) _ one in
              ap (λ n. slice_get new (n + m)) read ∙ adds.kept (get_or starts u 0 + m) inside ∙ one
              )
          | inr high ↦ (
              let same : t ≡ u = omega (arith, within, high) in
              let read : get_or new_starts t 0 ≡ length methods = ap (λ (l : List ℕ). get_or l t 0) is ∙ get_or_push starts (length methods) 0 t before.starts_count in
              let here : (n : ℕ) → n < count → slice_get new (get_or new_starts t 0 + n) ≡ Some (record { class = t; method = n }) = λ n under. ap (λ k. slice_get new (k + n)) read ∙ adds.added n under in
              subst (λ (v : ℕ). (n : ℕ) → n < method_count c.decls.list (type_at c.types v) → slice_get new (get_or new_starts v 0 + n) ≡ Some (record { class = v; method = n })) same here m less
              )
        ];
      }

-- the number of a method is below that of all methods
pub number-below : (c : TypeList) (methods : List ClosedMethod) (starts : List ℕ) (m : ClosedMethod) → AreNumberedTo c (length c.types) methods starts → IsListed c m → length c.types ≤ 1024 → get_or starts m.class 0 + m.method < 262144
number-below c methods starts m numbered listed few =
    let inside = slice_get_within methods (get_or starts m.class 0 + m.method) _ (numbered.each m.class m.method listed.class listed.method) in
    omega (arith, inside, numbered.few, few)

-- ---- targets

module _ (c : TypeList) (tokens : List (ℕ × ℕ)) (methods : List ClosedMethod) where
  pub targets-none : (t : ℕ) (old : List ℕ) → AddsTargets c tokens methods t 0 old old
  targets-none t old = record { long = omega arith; kept = λ i within. refl; added = λ k within. absurd (omega (arith, within)); fits = λ all. all }

  pub targets-push : (t k : ℕ) (old mid new : List ℕ) (x : ℕ) → x < 2 ^ 32 → AddsTargets c tokens methods t k old mid → IsTargetAt c tokens methods t k x → new ≡ mid ++ x ∷ [] → AddsTargets c tokens methods t (k + 1) old new
  targets-push t k old mid new x low before here is =
      let P : ℕ → ℕ → Type 0 = IsTargetAt c tokens methods t in
      record {
        long = ap length is ∙ push-length mid x ∙ omega (arith, before.long);
        kept = λ i within. ap (λ (l : List ℕ). get_or l i 0) is ∙ get_or_append_left mid (x ∷ []) 0 i (omega (arith, within, before.long)) ∙ before.kept i within;
        added = λ n within. elim (cases_lt n k) [
          | inl less ↦ subst (P n) (sym (ap (λ (l : List ℕ). get_or l (length old + n) 0) is ∙ get_or_append_left mid (x ∷ []) 0 (length old + n) (omega (arith, less, before.long)))) (before.added n less)
          | inr high ↦ (
              let same : k ≡ n = omega (arith, within, high) in
              let read : get_or new (length old + k) 0 ≡ x = ap (λ (l : List ℕ). get_or l (length old + k) 0) is ∙ get_or_push mid x 0 (length old + k) before.long in
              subst (λ m. P m (get_or new (length old + m) 0)) same (subst (P k) (sym read) here)
              )
        ];
        fits = λ all i. fits-push (before.fits all) i;
      }
    where
      fits-push : ((i : ℕ) → get_or mid i 0 < 2 ^ 32) → (i : ℕ) → get_or new i 0 < 2 ^ 32
      fits-push all i = subst (λ (l : List ℕ). get_or l i 0 < 2 ^ 32) (sym is) (elim (cases_lt i (length mid)) [
        | inl less ↦ subst (λ n. n < 2 ^ 32) (sym (get_or_append_left mid (x ∷ []) 0 i less)) (all i)
        | inr high ↦ (elim (cases_lt (length mid) i) [
          | inl past ↦ subst (λ n. n < 2 ^ 32) (sym (get_or_past (mid ++ x ∷ []) i 0 (omega (arith, past, push-length mid x)))) (lit< tt)
          | inr under ↦ (let same : length mid ≡ i = omega (arith, high, under) in subst (λ n. n < 2 ^ 32) (sym (get_or_push mid x 0 i same)) low)
        ])
      ])

  pub rows-none : AreTargetsTo c tokens methods 0 []
  rows-none = record { long = omega arith; each = λ t k within less. absurd (omega (arith, within)); fits = λ i. lit< tt }

  pub rows-more : (t : ℕ) (old new : List ℕ) → AreTargetsTo c tokens methods t old → AddsTargets c tokens methods t (length tokens) old new → AreTargetsTo c tokens methods (t + 1) new
  rows-more t old new before adds =
      let n = length tokens in
      let P : ℕ → ℕ → ℕ → Type 0 = IsTargetAt c tokens methods in
      record {
        long = adds.long ∙ ap (λ k. k + n) before.long ∙ more t n;
        each = λ u k within less. elim (cases_lt u t) [
          | inl low ↦ subst (P u k) (sym (adds.kept (u * n + k) (subst (λ m. u * n + k < m) (sym before.long) (inside u t k n low less)))) (before.each u k low less)
          | inr high ↦ (
              let same : t ≡ u = omega (arith, within, high) in
              subst (λ v. P v k (get_or new (v * n + k) 0)) same (subst (λ m. P t k (get_or new (m + k) 0)) before.long (adds.added k less))
              )
        ];
        fits = adds.fits before.fits;
      }
    where
      more : (t n : ℕ) → t * n + n ≡ (t + 1) * n
      more t n = sym (suc-mul t n) ∙ ap (λ k. k * n) (let next : suc t ≡ t + 1 = omega arith in next)

      inside : (u t k n : ℕ) → u < t → k < n → u * n + k < t * n
      inside u t k n low less = omega (arith, mul-add-lt u n k t low less)
