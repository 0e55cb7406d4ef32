-- Numbers of types, and the types that they are of.
use Rattle.std.proofs.Common.{◌≡◌, ℕ, ◌<◌, Bool, true, false, ◌||◌, List, [], ◌∷◌, ◌++◌, length, if◌then◌else◌, nat_eq, get_or, All, Some, refl, sym, ap, ◌∙◌}
use Rattle.std.specs.List.{list_any, slice_get}
use Rattle.std.proofs.lemmas.Bool.{eq-eqb, eqb-true, false≢true, ne_eqb}
use Rattle.std.proofs.lemmas.List.{map-append}
use Rattle.std.proofs.lemmas.List.Folds.{list_any_at}
use Rattle.std.proofs.lemmas.List.Elements.{All-head, All-tail, All-push}
use Rattle.std.proofs.lemmas.Option.{get_or_from_slice_get, slice_get-get_or, slice_get_within}
use Rattle.indexmap.specs.IndexSet.{insert_all, insert_key}
use Rattle.vsd_terms.specs.declared.term.Term.{Term}
use Rattle.vsd_terms.specs.Equality.{term_eq, term_eq-Decides}
use Rattle.vsd_types.specs.Numbers.{AreNumbers, IsDistinct}
use Rattle.vsd_types.specs.Types.{object, type_at}
use Rattle.vsd_interfaces.specs.Tables.{types_of}

-- a number that stands in a list is in it
pub stands-any : (ns : List ℕ) (n place : ℕ) → slice_get ns place ≡ Some n → list_any (nat_eq n) ns ≡ true
stands-any ns n place is = list_any_at (nat_eq n) ns place 0 (slice_get_within ns place n is) (eq-eqb n (get_or ns place 0) (sym (get_or_from_slice_get ns place n 0 is)))

-- the test of two numbers, turned round
turned : (n m : ℕ) → nat_eq m n ≡ nat_eq n m
turned n m =
    let M : Bool → Type 0 = λ b. nat_eq n m ≡ b → nat_eq m n ≡ b in
    let both : M (nat_eq n m) = elim (nat_eq n m) as M [
      | true ↦ (λ is. eq-eqb m n (sym (eqb-true n m is)))
      | false ↦ (λ is. ne_eqb m n (λ same. false≢true (sym is ∙ eq-eqb n m (sym same))))
    ] in
    both refl

pub any-turned : (n : ℕ) (ns : List ℕ) → list_any (λ m. nat_eq m n) ns ≡ list_any (nat_eq n) ns
any-turned n [] = refl
any-turned n (m ∷ ns) = ap (λ b. b || list_any (λ k. nat_eq k n) ns) (turned n m) ∙ ap (λ b. nat_eq n m || b) (any-turned n ns)

module _ (types : List Term) where
  pub number-type : (n : ℕ) (t : Term) → slice_get types n ≡ Some t → type_at types n ≡ t
  number-type n t is = get_or_from_slice_get types n t object is

  -- the types of their numbers
  pub types_of-numbers : (ns : List ℕ) (ts : List Term) → AreNumbers types ns ts → types_of types ns ≡ ts
  types_of-numbers [] [] are = refl
  types_of-numbers [] (t ∷ ts) are = absurd cc
  types_of-numbers (n ∷ ns) [] are = absurd cc
  types_of-numbers (n ∷ ns) (t ∷ ts) are =
      let first = number-type n t cc in
      let rest = types_of-numbers ns ts cc in
      cc

  abbrev pub AreWithin : List ℕ → Type 0
  AreWithin ns = All (λ i. i < length types) ns

  module _ (distinct : IsDistinct types) where
    pub same_number : (i j : ℕ) → i < length types → j < length types → type_at types i ≡ type_at types j → i ≡ j
    same_number i j i_in j_in same = distinct i j (type_at types i) (slice_get-get_or types i object i_in) (slice_get-get_or types j object j_in ∙ ap Some (sym same))

    -- the tests of numbers and of types agree
    pub same_test : (i j : ℕ) → i < length types → j < length types → nat_eq i j ≡ term_eq (type_at types i) (type_at types j)
    same_test i j i_in j_in =
        let decides = term_eq-Decides (type_at types i) (type_at types j) in
        let M : Bool → Type 0 = λ b. term_eq (type_at types i) (type_at types j) ≡ b → nat_eq i j ≡ b in
        let both : M (term_eq (type_at types i) (type_at types j)) = elim (term_eq (type_at types i) (type_at types j)) as M [
          | true ↦ (λ is. eq-eqb i j (same_number i j i_in j_in (decides.0 is)))
          | false ↦ (λ is. differ i j (λ same. false≢true (sym is ∙ decides.1 (ap (type_at types) same))))
        ] in
        both refl
      where
        differ : (i j : ℕ) → (i ≡ j → ⊥) → nat_eq i j ≡ false
        differ i j other =
            let M : Bool → Type 0 = λ b. nat_eq i j ≡ b → b ≡ false in
            let both : M (nat_eq i j) = elim (nat_eq i j) as M [ true ↦ (λ is. absurd (other (eqb-true i j is))) | false ↦ (λ is. refl) ] in
            both refl

    pub any_number : (n : ℕ) (ns : List ℕ) → n < length types → AreWithin ns → list_any (nat_eq n) ns ≡ list_any (term_eq (type_at types n)) (types_of types ns)
    any_number n [] within all = refl
    any_number n (m ∷ ns) within all =
        let first = same_test n m within (All-head (λ i. i < length types) m ns all) in
        let rest = any_number n ns within (All-tail (λ i. i < length types) m ns all) in
        ap (λ b. b || list_any (nat_eq n) ns) first ∙ ap (λ b. term_eq (type_at types n) (type_at types m) || b) rest

    pub insert-within : (ns : List ℕ) (n : ℕ) → AreWithin ns → n < length types → AreWithin (insert_key nat_eq ns n)
    insert-within ns n all within =
        let M : Bool → Type 0 = λ b. AreWithin (if b then ns else ns ++ n ∷ []) in
        elim (list_any (nat_eq n) ns) as M [ true ↦ all | false ↦ All-push (λ i. i < length types) ns n all within ]

    pub insert-types : (ns : List ℕ) (n : ℕ) → AreWithin ns → n < length types → types_of types (insert_key nat_eq ns n) ≡ insert_key term_eq (types_of types ns) (type_at types n)
    insert-types ns n all within =
        let M : Bool → Type 0 = λ b. types_of types (if b then ns else ns ++ n ∷ []) ≡ (if b then types_of types ns else types_of types ns ++ type_at types n ∷ []) in
        let both : (b : Bool) → M b = λ b. elim b as M [ true ↦ refl | false ↦ map-append (type_at types) ns (n ∷ []) ] in
        both (list_any (nat_eq n) ns) ∙ ap (λ b. if b then types_of types ns else types_of types ns ++ type_at types n ∷ []) (any_number n ns within all)

    pub inserts-within : (ns ms : List ℕ) → AreWithin ns → AreWithin ms → AreWithin (insert_all nat_eq ns ms)
    inserts-within ns [] all more = all
    inserts-within ns (m ∷ ms) all more = inserts-within (insert_key nat_eq ns m) ms (insert-within ns m all (All-head (λ i. i < length types) m ms more)) (All-tail (λ i. i < length types) m ms more)

    pub inserts-types : (ns ms : List ℕ) → AreWithin ns → AreWithin ms → types_of types (insert_all nat_eq ns ms) ≡ insert_all term_eq (types_of types ns) (types_of types ms)
    inserts-types ns [] all more = refl
    inserts-types ns (m ∷ ms) all more =
        let within = All-head (λ i. i < length types) m ms more in
        inserts-types (insert_key nat_eq ns m) ms (insert-within ns m all within) (All-tail (λ i. i < length types) m ms more) ∙ ap (λ l. insert_all term_eq l (types_of types ms)) (insert-types ns m all within)
