-- Tables over methods, filled one declaration after another.
use Rattle.std.proofs.Common.{◌≡◌, ℕ, ◌+◌, ◌*◌, ◌<◌, ◌≤◌, List, [], ◌∷◌, ◌++◌, Option, length, get_or, set, length-set, refl, sym, ap, ◌∙◌, subst, Some, None, IsSome, IsSomeAnd, inl, inr, arith, get_or-set_same, get_or-set_other}
use Rattle.std.specs.List.{slice_get}
use Rattle.std.proofs.lemmas.Bool.{cases_lt, cases_eq}
use Rattle.std.proofs.lemmas.List.{get_or_append_left, length_push}
use Rattle.std.proofs.Math.Seq.{get_or-append_seam}
use Rattle.std.proofs.lemmas.Option.{slice_get-get_or, slice_get_past, slice_get_read, slice_get_within}
use Rattle.vsd_ast.specs.declared.declarations.Decl.{Decl}
use Rattle.vsd_ast.specs.declared.declarations.Method.{Method}
use Rattle.vsd_ast.specs.WellFormed.{IsDeclaration}
use Rattle.vsd_lift.specs.Settled.{IsSettled}
use Rattle.vsd_lift.proofs.ChainLemmas.{slice_get-left, slice_get-seam}
use Rattle.vsd_lift.proofs.PlaceLemmas.{All-at}
use Rattle.vsd_roots.specs.Methods.{IsMethod, Tabulates, TabulatesFirst, TabulatesPart, TabulatesRow}
use Rattle.vsd_roots.specs.Order.{TabulatesBelow, rank}
use Rattle.vsd_roots.specs.declared.place.Place.{Place}

-- ---- a method is within the limits, and its place says which it is

pub record Within (ds : List Decl) (p : Place) : Type 0 where
  pub declared : p.decl < length ds
  pub decl : p.decl < 1024
  pub method : p.method < 256

pub method_within : (ds : List Decl) (places depths : List ℕ) (p : Place) (m : Method) → IsSettled ds places depths → IsMethod ds p m → Within ds p
method_within ds places depths p m settled is =
    let written : IsDeclaration (length places) is.owner = All-at (IsDeclaration (length places)) ds p.decl is.owner is.declared settled.each in
    let inside = slice_get_within ds p.decl is.owner is.declared in
    record {
      declared = inside;
      decl = omega (arith, settled.few);
      method = omega (arith, written.few_methods, slice_get_within is.owner.methods p.method m is.listed);
    }

pub same_method : (ds : List Decl) (p q : Place) (m n : Method) → p.decl ≡ q.decl → p.method ≡ q.method → IsMethod ds p m → IsMethod ds q n → m ≡ n
same_method ds p q m n decls methods is other =
    let owners : is.owner ≡ other.owner = let both = sym is.declared ∙ ap (slice_get ds) decls ∙ other.declared in cc in
    let both : Some m ≡ Some n = sym is.listed ∙ ap (λ (x : Decl). slice_get x.methods p.method) owners ∙ ap (slice_get other.owner.methods) methods ∙ other.listed in
    cc

-- ---- rows

module _ {A : Type 0} (ds : List Decl) (depths : List ℕ) (Relates : Place → A → Type 0) (table : List (List A)) where
  pub below-start : length table ≡ length ds → TabulatesBelow ds depths 0 Relates table
  below-start rows = record { rows = rows; each = λ p m is below. absurd (omega arith) }

  -- no rank between the bounds is that of a declaration
  pub below-skip : (bound next : ℕ) → ((i : ℕ) → i < length ds → rank depths i < next → rank depths i < bound) → TabulatesBelow ds depths bound Relates table → TabulatesBelow ds depths next Relates table
  below-skip bound next none before = record {
    rows = before.rows;
    each = λ p m is below. before.each p m is (none p.decl (slice_get_within ds p.decl is.owner is.declared) below);
  }

  pub below-end : (bound : ℕ) → ((i : ℕ) → i < length ds → rank depths i < bound) → TabulatesBelow ds depths bound Relates table → Tabulates ds Relates table
  below-end bound all before = record {
    rows = before.rows;
    each = λ p m is. before.each p m is (all p.decl (slice_get_within ds p.decl is.owner is.declared));
  }

  -- the row of the declaration of the rank
  pub below-set : (bound next at : ℕ) (row : List A) → length ds ≤ 1024 → at < length ds → rank depths at ≡ bound → next ≡ bound + 1 → TabulatesRow ds Relates at row → TabulatesBelow ds depths bound Relates table → TabulatesBelow ds depths next Relates (set table at row)
  below-set bound next at row few inside here one filled before = record {
    rows = length-set table at row ∙ before.rows;
    each = λ p m is below.
        elim (cases_eq p.decl at) [
          | inl same ↦ (
              let read : get_or (set table at row) p.decl [] ≡ row = ap (λ (i : ℕ). get_or (set table at row) i []) same ∙ get_or-set_same table at row [] (omega (arith, before.rows)) in
              let P : List A → Type 0 = λ l. IsSomeAnd (slice_get l p.method) (Relates p) in
              subst P (sym read) (filled.each p m same is)
              )
          | inr other ↦ (
              let read : get_or (set table at row) p.decl [] ≡ get_or table p.decl [] = get_or-set_other table at p.decl row [] other in
              let P : List A → Type 0 = λ l. IsSomeAnd (slice_get l p.method) (Relates p) in
              let lower : rank depths p.decl < bound = elim (cases_lt (rank depths p.decl) bound) [ inl lt ↦ lt | inr ge ↦ absurd (other (omega (arith, slice_get_within ds p.decl is.owner is.declared))) ] in
              subst P (sym read) (before.each p m is lower)
              )
        ];
  }

-- ---- a list with one element written

pub slice_get-set_same : {A : Type 0} (xs : List A) (i : ℕ) (x : A) → i < length xs → slice_get (set xs i x) i ≡ Some x
slice_get-set_same xs i x within =
    slice_get-get_or (set xs i x) i x (omega (arith, length-set xs i x)) ∙ ap Some (get_or-set_same xs i x x within)

pub slice_get-set_other : {A : Type 0} (xs : List A) (i j : ℕ) (x : A) → (j ≡ i → ⊥) → slice_get (set xs i x) j ≡ slice_get xs j
slice_get-set_other xs i j x other =
    elim (cases_lt j (length xs)) [
      | inl lt ↦ slice_get-get_or (set xs i x) j x (omega (arith, length-set xs i x)) ∙ ap Some (get_or-set_other xs i j x x other) ∙ sym (slice_get-get_or xs j x lt)
      | inr ge ↦ slice_get_past (set xs i x) j (omega (arith, length-set xs i x)) ∙ sym (slice_get_past xs j ge)
    ]

-- ---- rows and tables that grow at their ends

module _ {A : Type 0} (ds : List Decl) (Relates : Place → A → Type 0) where
  pub part-start : (decl : ℕ) (row : List A) → row ≡ [] → TabulatesPart ds Relates decl 0 row
  part-start decl row none = record { long = ap length none; each = λ p m at below is. absurd (omega arith) }

  pub part-push : (decl count : ℕ) (row more : List A) (x : A) → more ≡ row ++ x ∷ [] → ((p : Place) (m : Method) → p.decl ≡ decl → p.method ≡ count → IsMethod ds p m → Relates p x) → TabulatesPart ds Relates decl count row → TabulatesPart ds Relates decl (count + 1) more
  part-push decl count row more x pushed here before = record {
    long = ap length pushed ∙ length_push row x ∙ ap (λ (n : ℕ). n + 1) before.long;
    each = λ p m at below is.
        let P : Option A → Type 0 = λ o. IsSomeAnd o (Relates p) in
        elim (cases_lt p.method count) [
          | inl lt ↦ (
              let kept : slice_get more p.method ≡ slice_get row p.method = ap (λ (l : List A). slice_get l p.method) pushed ∙ slice_get-left row (x ∷ []) p.method (omega (arith, before.long)) in
              subst P (sym kept) (before.each p m at lt is)
              )
          | inr ge ↦ (
              let end : p.method ≡ count = omega arith in
              let last : slice_get more p.method ≡ Some x = ap (λ (l : List A). slice_get l p.method) pushed ∙ slice_get-seam row x p.method (end ∙ sym before.long) in
              subst P (sym last) (here p m at end is)
              )
        ];
  }

  pub part-end : (decl count : ℕ) (row : List A) → ((p : Place) (m : Method) → p.decl ≡ decl → IsMethod ds p m → p.method < count) → TabulatesPart ds Relates decl count row → TabulatesRow ds Relates decl row
  part-end decl count row all before = record { each = λ p m at is. before.each p m at (all p m at is) is }

  pub first-start : (table : List (List A)) → table ≡ [] → TabulatesFirst ds Relates 0 table
  first-start table none = record { rows = ap length none; each = λ p m below is. absurd (omega arith) }

  pub first-push : (count : ℕ) (table more : List (List A)) (row : List A) → more ≡ table ++ row ∷ [] → TabulatesRow ds Relates count row → TabulatesFirst ds Relates count table → TabulatesFirst ds Relates (count + 1) more
  first-push count table more row pushed here before = record {
    rows = ap length pushed ∙ length_push table row ∙ ap (λ (n : ℕ). n + 1) before.rows;
    each = λ p m below is.
        let P : List A → Type 0 = λ l. IsSomeAnd (slice_get l p.method) (Relates p) in
        let none : List A = [] in
        elim (cases_lt p.decl count) [
          | inl lt ↦ (
              let kept : get_or more p.decl none ≡ get_or table p.decl none = ap (λ (l : List (List A)). get_or l p.decl none) pushed ∙ get_or_append_left table (row ∷ []) none p.decl (omega (arith, before.rows)) in
              subst P (sym kept) (before.each p m lt is)
              )
          | inr ge ↦ (
              let end : p.decl ≡ count = omega arith in
              let last : get_or more p.decl none ≡ row = ap (λ (l : List (List A)). get_or l p.decl none) pushed ∙ ap (λ (n : ℕ). get_or (table ++ row ∷ []) n none) (end ∙ sym before.rows) ∙ get_or-append_seam table row [] none in
              subst P (sym last) (here.each p m end is)
              )
        ];
  }

  pub first-end : (count : ℕ) (table : List (List A)) → count ≡ length ds → TabulatesFirst ds Relates count table → Tabulates ds Relates table
  first-end count table all before = record {
    rows = before.rows ∙ all;
    each = λ p m is. before.each p m (omega (arith, slice_get_within ds p.decl is.owner is.declared)) is;
  }

-- a method of the declaration is among the declaration's methods
pub listed_below : (ds : List Decl) (at : ℕ) (x : Decl) (count : ℕ) → slice_get ds at ≡ Some x → length x.methods ≤ count → (p : Place) (m : Method) → p.decl ≡ at → IsMethod ds p m → p.method < count
listed_below ds at x count here few p m decl is =
    let owners : is.owner ≡ x = let both = sym is.declared ∙ ap (slice_get ds) decl ∙ here in cc in
    omega (arith, slice_get_within is.owner.methods p.method m is.listed, ap (λ (y : Decl). length y.methods) owners)

-- ---- entries that are there

pub some_entry : {A : Type 0} (o : Option A) (P : A → Type 0) → IsSomeAnd o P → IsSome o
some_entry None P has = absurd has
some_entry (Some x) P has = refl

pub entry_has : {A : Type 0} (o : Option A) (x : A) (P : A → Type 0) → o ≡ Some x → IsSomeAnd o P → P x
entry_has {A} o x P is has = let Q : Option A → Type 0 = λ p. IsSomeAnd p P in subst Q is has

-- the method of a declaration that code reads
pub method_here : (ds : List Decl) (at i : ℕ) (d : Decl) (methods : List Method) → at < length ds → methods ≡ (get_or ds at d).methods → i < length methods → (m : Method) → m ≡ get_or methods i m → IsMethod ds (record { decl = at; method = i }) m
method_here ds at i d methods inside are within m read = record {
  owner = get_or ds at d;
  declared = slice_get-get_or ds at d inside;
  listed = ap (λ (l : List Method). slice_get l i) (sym are) ∙ slice_get_read methods (length methods) i m refl within read;
}
