-- Implementations are unique, and what a row says of the slots that a class lacks.
use Rattle.std.proofs.Common.{◌≡◌, ℕ, zero, suc, ◌+◌, ◌<◌, ◌≤◌, inl, inr, true, List, [], ◌∷◌, ◌++◌, length, map, take, get_or, Option, Some, None, refl, sym, ap, ◌∙◌, subst, arith}
use Rattle.std.specs.List.{slice_get}
use Rattle.std.specs.Option.{option_map}
use Rattle.std.proofs.lemmas.Bool.{cases_lt, cases_order}
use Rattle.std.proofs.lemmas.List.{length-map}
use Rattle.std.proofs.lemmas.List.Sums.{sum_by-cons}
use Rattle.std.proofs.lemmas.Option.{get_or_from_slice_get, slice_get-get_or, slice_get-map, slice_get_within}
use Rattle.vsd_terms.specs.declared.term.Term.{Term}
use Rattle.vsd_ast.specs.declared.declarations.Decl.{Decl}
use Rattle.vsd_types.specs.TypeList.{TypeList}
use Rattle.vsd_types.specs.Types.{type_at}
use Rattle.vsd_slots.specs.Entries.{found_of, nothing}
use Rattle.vsd_slots.specs.Implementation.{Found, IsImplementation, implementation}
use Rattle.vsd_interfaces.specs.Lineage.{all_interfaces}
use Rattle.vsd_slots.specs.Refusals.{AreAll, IsTotal, IsWhole, IsWithinLimit, Lacks, LacksFirst, Passes, is_concrete, method_count, slots_in}
use Rattle.vsd_slots.specs.Missing.{IsFirstMissing, Misses}
use Rattle.vsd_slots.specs.Rows.{IsRow, column_of}
use Rattle.vsd_interfaces.specs.Tables.{IsMap, types_of}
use Rattle.vsd_interfaces.proofs.UniqueLaws.{lineage-unique}
use Rattle.vsd_slots.specs.declared.entries.ClosedMethod.{ClosedMethod}
use Rattle.vsd_slots.specs.declared.entries.Entry.{Entry}
use Rattle.vsd_slots.specs.declared.missing.Slot.{Slot}

module _ (ds : List Decl) where
  pub implementation-unique : (t i : Term) (m : ℕ) (a b : Option Found) → IsImplementation ds t i m a → IsImplementation ds t i m b → a ≡ b
  implementation-unique t i m a b x y = x.first ∙ ap (implementation ds i m) (lineage-unique ds (Some t) x.levels y.levels x.lineage y.lineage) ∙ sym y.first

  pub all-unique : (t : Term) (xs ys : List Term) → AreAll ds t xs → AreAll ds t ys → xs ≡ ys
  all-unique t xs ys a b = a.all ∙ ap all_interfaces (lineage-unique ds (Some t) a.levels b.levels a.lineage b.lineage) ∙ sym b.all

found_none : (types : List Term) (o : Option ClosedMethod) → found_of types o ≡ None → o ≡ None
found_none types None is = refl
found_none types (Some x) is = absurd cc

-- ---- counts

module _ (ds : List Decl) (types : List Term) where
  pub slots-take : (ns : List ℕ) (k : ℕ) → slots_in ds (types_of types (take k ns)) ≤ slots_in ds (types_of types ns)
  slots-take ns zero = omega arith
  slots-take [] (suc k) = omega arith
  slots-take (n ∷ ns) (suc k) =
      let rest = slots-take ns k in
      let less : slots_in ds (types_of types (take (suc k) (n ∷ ns))) ≡ method_count ds (type_at types n) + slots_in ds (types_of types (take k ns)) = sum_by-cons (λ (x : ℕ). x) (method_count ds (type_at types n)) (map (method_count ds) (types_of types (take k ns))) in
      let more : slots_in ds (types_of types (n ∷ ns)) ≡ method_count ds (type_at types n) + slots_in ds (types_of types ns) = sum_by-cons (λ (x : ℕ). x) (method_count ds (type_at types n)) (map (method_count ds) (types_of types ns)) in
      omega (arith, rest, less, more)

  pub slots-push : (ns : List ℕ) (n : ℕ) → slots_in ds (types_of types (ns ++ n ∷ [])) ≡ slots_in ds (types_of types ns) + method_count ds (type_at types n)
  slots-push [] n = omega arith
  slots-push (m ∷ ns) n =
      let rest = slots-push ns n in
      let pushed : slots_in ds (types_of types ((m ∷ ns) ++ n ∷ [])) ≡ method_count ds (type_at types m) + slots_in ds (types_of types (ns ++ n ∷ [])) = sum_by-cons (λ (x : ℕ). x) (method_count ds (type_at types m)) (map (method_count ds) (types_of types (ns ++ n ∷ []))) in
      let first : slots_in ds (types_of types (m ∷ ns)) ≡ method_count ds (type_at types m) + slots_in ds (types_of types ns) = sum_by-cons (λ (x : ℕ). x) (method_count ds (type_at types m)) (map (method_count ds) (types_of types ns)) in
      omega (arith, rest, pushed, first)

-- ---- rows

module _ (c : TypeList) (t : ℕ) where
  abbrev Ds : List Decl
  Ds = c.decls.list

  module _ (columns : List (List Entry)) (interfaces row : List ℕ) (filled : IsRow c columns t interfaces (length interfaces) row) where
    type_stands : (k : ℕ) → k < length interfaces → slice_get (types_of c.types interfaces) k ≡ Some (type_at c.types (get_or interfaces k 0))
    type_stands k within = slice_get-map (type_at c.types) interfaces k ∙ ap (option_map (type_at c.types)) (slice_get-get_or interfaces k 0 within)

    -- what the row has for a method implements it
    pub implements : (k m : ℕ) → k < length interfaces → m < length (column_of columns row k) → IsImplementation Ds (type_at c.types t) (type_at c.types (get_or interfaces k 0)) m (found_of c.types (get_or (column_of columns row k) m nothing).implementation)
    implements k m inside within = let entry = (filled.each k inside).holds.each m within in record { levels = entry.levels; lineage = entry.lineage; first = entry.over.implementation }

    -- what the class lacks, its row has not
    lacks_none : (k m : ℕ) → Lacks Ds (type_at c.types t) (types_of c.types interfaces) k m → (k < length interfaces) × Misses (column_of columns row k) m
    lacks_none k m lacks =
        let inside : k < length interfaces = omega (arith, slice_get_within (types_of c.types interfaces) k lacks.interface lacks.stands, length-map interfaces (type_at c.types)) in
        let stands = type_stands k inside in
        let same : lacks.interface ≡ type_at c.types (get_or interfaces k 0) = let both = sym lacks.stands ∙ stands in cc in
        let column = (filled.each k inside).holds in
        let listed : m < length (column_of columns row k) = omega (arith, lacks.listed, column.long, ap (method_count Ds) same) in
        let none = subst (λ i. IsImplementation Ds (type_at c.types t) i m None) same lacks.none in
        let e = get_or (column_of columns row k) m nothing in
        let empty = found_none c.types e.implementation (implementation-unique Ds (type_at c.types t) (type_at c.types (get_or interfaces k 0)) m _ _ (implements k m inside listed) none) in
        (inside, record { entry = e; stands = slice_get-get_or (column_of columns row k) m nothing listed; none = empty })

    none_lacks : (k m : ℕ) → k < length interfaces → Misses (column_of columns row k) m → Lacks Ds (type_at c.types t) (types_of c.types interfaces) k m
    none_lacks k m inside misses =
        let column = (filled.each k inside).holds in
        let within = slice_get_within (column_of columns row k) m misses.entry misses.stands in
        let listed : m < method_count Ds (type_at c.types (get_or interfaces k 0)) = omega (arith, column.long, within) in
        let empty : (get_or (column_of columns row k) m nothing).implementation ≡ None = ap (λ (e : Entry). e.implementation) (get_or_from_slice_get (column_of columns row k) m misses.entry nothing misses.stands) ∙ misses.none in
        record {
          interface = type_at c.types (get_or interfaces k 0);
          stands = type_stands k inside;
          listed = listed;
          none = subst (λ o. IsImplementation Ds (type_at c.types t) (type_at c.types (get_or interfaces k 0)) m (found_of c.types o)) empty (implements k m inside within);
        }

    pub whole-row : AreAll Ds (type_at c.types t) (types_of c.types interfaces) → (is_concrete Ds (type_at c.types t) ≡ true → IsFirstMissing columns row None) → IsWhole Ds (type_at c.types t)
    whole-row all none concrete others are k m lacks =
        let same = all-unique Ds (type_at c.types t) others (types_of c.types interfaces) are all in
        let found = lacks_none k m (subst (λ is. Lacks Ds (type_at c.types t) is k m) same lacks) in
        none concrete k (omega (arith, found.0, filled.long)) m found.1

    pub first-row : (s : Slot) → IsFirstMissing columns row (Some s) → LacksFirst Ds (type_at c.types t) (types_of c.types interfaces) s.place s.method
    first-row s is =
        record {
          lacks = none_lacks s.place s.method (omega (arith, is.0, filled.long)) is.1.0;
          first = λ p n lacks.
              let found = lacks_none p n lacks in
              elim (cases_order p s.place) [
                | inl same ↦ elim (cases_lt n s.method) [
                  | inl low ↦ absurd (is.1.1 n low (subst (λ k. Misses (column_of columns row k) n) same found.1))
                  | inr high ↦ inr (sym same, high)
                ]
                | inr other ↦ elim other [
                  | inl lower ↦ absurd (is.2 p lower n found.1)
                  | inr higher ↦ inl higher
                ]
              ];
        }

    pub slot-stands : (s : Slot) → s.place < length row → slice_get (types_of c.types interfaces) s.place ≡ Some (type_at c.types (get_or interfaces s.place 0))
    slot-stands s within = type_stands s.place (omega (arith, within, filled.long))

  -- ---- totals

  pub all-of : (row : List ℕ) → IsMap c t row → AreAll Ds (type_at c.types t) (types_of c.types row)
  all-of row map = record { levels = map.levels; lineage = map.lineage; all = map.all }

  pub total-more : (row : List ℕ) (total n : ℕ) → IsMap c t row → IsTotal c t total → n ≡ total + slots_in Ds (types_of c.types row) → IsTotal c (suc t) n
  total-more row total n map before is = (types_of c.types row, total, all-of row map, before, is)

module _ (c : TypeList) where
  pub passes-more : (t : ℕ) → Passes c t → IsWithinLimit c t → IsWhole c.decls.list (type_at c.types t) → Passes c (t + 1)
  passes-more t before limit whole n within = elim (cases_lt n t) [
    | inl low ↦ before n low
    | inr high ↦ let same : t ≡ n = omega (arith, within, high) in (subst (IsWithinLimit c) same limit, subst (λ k. IsWhole c.decls.list (type_at c.types k)) same whole)
  ]

  pub total-next : (t total : ℕ) → IsTotal c (suc t) total → IsTotal c (t + 1) total
  total-next t total is = let next : suc t ≡ t + 1 = omega arith in subst (λ n. IsTotal c n total) next is
