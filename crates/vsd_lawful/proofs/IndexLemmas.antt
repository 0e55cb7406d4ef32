-- The place of a name's declaration, and what stands there.
use Rattle.std.proofs.Common.{◌≡◌, ℕ, ◌+◌, ◌<◌, ◌≤◌, zero, suc, Bool, true, false, cond, eqb, List, [], ◌∷◌, length, Option, Some, None, unwrap_or, ltb, refl, sym, ap, ◌∙◌, arith, add-one, eq-eqb}
use Rattle.std.proofs.lemmas.Bool.{eqb-true, lt-ltb, le-ltb}
use Rattle.std.specs.List.{slice_get}
use Rattle.vsd_ast.specs.declared.declarations.Decl.{Decl}
use Rattle.vsd_ast.specs.Lookup.{declared, place_of}
use Rattle.vsd_lawful.specs.Index.{place_from, place_below, place_in}

-- the declaration of the name stands at this place, where the places of the list begin with the first
pub record IsPlaceOf (ds : List Decl) (first name place : ℕ) : Type 0 where
  pub offset : ℕ
  pub is : place ≡ first + offset
  pub within : offset < length ds
  pub element : Decl
  pub there : slice_get ds offset ≡ Some element
  pub named : element.name ≡ name
  pub first_one : declared ds name ≡ Some element
  pub lookup : place_of ds name ≡ offset

pub place_from-Some : (first : ℕ) (ds : List Decl) (name place : ℕ) → place_from first ds name ≡ Some place → IsPlaceOf ds first name place
unfolding declared place_of
place_from-Some first [] name place found = absurd cc
place_from-Some first (x ∷ xs) name place found = by (eqb x.name name) refl (place_from-Some (first + 1) xs name place)
  where
    by : (b : Bool) → eqb x.name name ≡ b → (place_from (first + 1) xs name ≡ Some place → IsPlaceOf xs (first + 1) name place) → IsPlaceOf (x ∷ xs) first name place
    by true is later =
        let at : Some first ≡ Some place = sym (ap (λ b. cond b (Some first) (place_from (first + 1) xs name)) is) ∙ found in
        let same : first ≡ place = cc in
        record {
          offset = 0;
          is = omega arith;
          within = omega arith;
          element = x;
          there = refl;
          named = eqb-true x.name name is;
          first_one = ap (λ b. cond b (Some x) (declared xs name)) is;
          lookup = ap (λ b. cond b 0 (place_of xs name + 1)) is;
        }
    by false is later =
        let r = later (sym (ap (λ b. cond b (Some first) (place_from (first + 1) xs name)) is) ∙ found) in
        record {
          offset = r.offset + 1;
          is = omega (arith, r.is);
          within = omega (arith, r.within);
          element = r.element;
          there = let e = r.there in rw add-one e;
          named = r.named;
          first_one = ap (λ b. cond b (Some x) (declared xs name)) is ∙ r.first_one;
          lookup = ap (λ b. cond b 0 (place_of xs name + 1)) is ∙ ap (λ n. n + 1) r.lookup;
        }

pub place_from-None : (first : ℕ) (ds : List Decl) (name : ℕ) → place_from first ds name ≡ None → declared ds name ≡ None
unfolding declared
place_from-None first [] name missing = refl
place_from-None first (x ∷ xs) name missing = by (eqb x.name name) missing (place_from-None (first + 1) xs name)
  where
    by : (b : Bool) → cond b (Some first) (place_from (first + 1) xs name) ≡ None → (place_from (first + 1) xs name ≡ None → declared xs name ≡ None) → cond b (Some x) (declared xs name) ≡ None
    by true e later = absurd cc
    by false e later = later e

-- no declaration of the name stands before the place found
pub place_from-least : (first : ℕ) (ds : List Decl) (name place k : ℕ) (y : Decl) → place_from first ds name ≡ Some place → slice_get ds k ≡ Some y → y.name ≡ name → place ≤ first + k
place_from-least first [] name place k y found here named = absurd cc
place_from-least first (x ∷ xs) name place zero y found here named =
    let same : x ≡ y = cc in
    let at : Some first ≡ Some place = sym (ap (λ b. cond b (Some first) (place_from (first + 1) xs name)) (eq-eqb x.name name (ap (λ (z : Decl). z.name) same ∙ named))) ∙ found in
    let e : first ≡ place = cc in
    omega arith
place_from-least first (x ∷ xs) name place (suc k) y found here named = by (eqb x.name name) found (λ later. place_from-least (first + 1) xs name place k y later here named)
  where
    by : (b : Bool) → cond b (Some first) (place_from (first + 1) xs name) ≡ Some place → (place_from (first + 1) xs name ≡ Some place → place ≤ (first + 1) + k) → place ≤ first + suc k
    by true e later = let same : first ≡ place = cc in omega arith
    by false e later = omega (arith, later e)

-- where the table has no place, no declaration has the name
pub place_from-absent : (first : ℕ) (ds : List Decl) (name k : ℕ) (y : Decl) → place_from first ds name ≡ None → slice_get ds k ≡ Some y → y.name ≡ name → ⊥
place_from-absent first [] name k y missing here named = absurd cc
place_from-absent first (x ∷ xs) name zero y missing here named =
    let same : x ≡ y = cc in
    let at : Some first ≡ None = sym (ap (λ b. cond b (Some first) (place_from (first + 1) xs name)) (eq-eqb x.name name (ap (λ (z : Decl). z.name) same ∙ named))) ∙ missing in
    absurd cc
place_from-absent first (x ∷ xs) name (suc k) y missing here named = by (eqb x.name name) missing (λ later. place_from-absent (first + 1) xs name k y later here named)
  where
    by : (b : Bool) → cond b (Some first) (place_from (first + 1) xs name) ≡ None → (place_from (first + 1) xs name ≡ None → ⊥) → ⊥
    by true e later = absurd cc
    by false e later = later e

pub place_of-None : (first : ℕ) (ds : List Decl) (name : ℕ) → place_from first ds name ≡ None → place_of ds name ≡ length ds
unfolding place_of
place_of-None first [] name missing = refl
place_of-None first (x ∷ xs) name missing = by (eqb x.name name) missing (place_of-None (first + 1) xs name)
  where
    by : (b : Bool) → cond b (Some first) (place_from (first + 1) xs name) ≡ None → (place_from (first + 1) xs name ≡ None → place_of xs name ≡ length xs) → cond b 0 (place_of xs name + 1) ≡ suc (length xs)
    by true e later = absurd cc
    by false e later = let r = later e in omega arith

pub not_below : (n : ℕ) → ltb n n ≡ false
not_below n = le-ltb n n (omega arith)

-- what the table tells is the place of the declaration, or the count of declarations
pub place_below-table : (ds : List Decl) (name place : ℕ) → place ≡ unwrap_or (place_in ds name) (length ds) → place_below place (length ds) ≡ place_in ds name
place_below-table ds name place is = ap (λ p. place_below p (length ds)) is ∙ by (place_in ds name) refl
  where
    by : (o : Option ℕ) → place_in ds name ≡ o → place_below (unwrap_or o (length ds)) (length ds) ≡ o
    by None missing = ap (λ b. cond b (Some (length ds)) None) (not_below (length ds))
    by (Some p) found =
        let at = place_from-Some 0 ds name p found in
        ap (λ b. cond b (Some p) None) (lt-ltb p (length ds) (omega (arith, at.is, at.within)))

pub table_place_of : (ds : List Decl) (name : ℕ) → unwrap_or (place_in ds name) (length ds) ≡ place_of ds name
table_place_of ds name = by (place_in ds name) refl
  where
    by : (o : Option ℕ) → place_in ds name ≡ o → unwrap_or o (length ds) ≡ place_of ds name
    by None missing = sym (place_of-None 0 ds name missing)
    by (Some p) found = let at = place_from-Some 0 ds name p found in omega (arith, at.is, at.lookup)
