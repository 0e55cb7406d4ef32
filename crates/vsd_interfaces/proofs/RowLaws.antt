-- Rows made from rows of lower rank are right.
use Rattle.std.proofs.Common.{◌≡◌, ℕ, zero, suc, ◌+◌, ◌<◌, ◌≤◌, inl, inr, Bool, true, false, List, [], ◌∷◌, length, nat_eq, get_or, All, Option, Some, None, refl, sym, ap, ◌∙◌, subst, arith, get_or-set_same, get_or-set_other}
use Rattle.std.specs.List.{flat_map, slice_get}
use Rattle.std.specs.Option.{option_to_list}
use Rattle.std.proofs.lemmas.Bool.{cases_lt, cases_order}
use Rattle.std.proofs.lemmas.List.{length-set, map-append}
use Rattle.std.proofs.lemmas.List.Elements.{All-nil, All-cons, All-head, All-tail, All-append}
use Rattle.std.proofs.lemmas.List.Sums.{fold-append}
use Rattle.std.proofs.lemmas.Option.{slice_get_within}
use Rattle.indexmap.specs.IndexSet.{insert_all, insert_key}
use Rattle.vsd_terms.specs.declared.term.Term.{Term}
use Rattle.vsd_terms.specs.Equality.{term_eq}
use Rattle.vsd_ast.specs.declared.declarations.Decl.{Decl}
use Rattle.vsd_ast.specs.Hierarchy.{IsHierarchy}
use Rattle.vsd_layers.specs.Layers.{IsNextAt, or_end}
use Rattle.vsd_layers.proofs.LayerLemmas.{none_between}
use Rattle.vsd_types.specs.Numbers.{AreNumbers, IsDistinct}
use Rattle.vsd_types.specs.TypeList.{TypeList}
use Rattle.vsd_types.specs.Types.{base_of, is_interface_type, named_of, type_at}
use Rattle.vsd_interfaces.specs.Interfaces.{AreInterfaces, firsts, tree}
use Rattle.vsd_interfaces.specs.Lineage.{IsLineage, Level, all_interfaces}
use Rattle.vsd_interfaces.specs.Ranks.{AreRanks, rank_of}
use Rattle.vsd_interfaces.specs.Tables.{AreOwn, AreRows, AreRowsTo, IsFilled, IsMap, IsMapFrom, IsReached, IsReachedFrom, row_of, types_of, with_row}
use Rattle.vsd_interfaces.proofs.FirstLaws.{insert-firsts}
use Rattle.vsd_interfaces.proofs.NumberLaws.{AreWithin, inserts-types, inserts-within, number-type, types_of-numbers}
use Rattle.vsd_interfaces.proofs.RankLaws.{base-falls, named-falls}

pub tree-more : (ds : List Decl) (k : ℕ) (i : Term) → tree ds (suc k) i ≡ i ∷ flat_map (tree ds k) (named_of ds i)
unfolding tree
tree-more ds k i = refl

-- numbers of types are below their count
pub numbers-all : (types : List Term) (ns : List ℕ) (ts : List Term) → AreNumbers types ns ts → AreWithin types ns
numbers-all types [] [] are = All-nil (λ i. i < length types)
numbers-all types [] (t ∷ ts) are = absurd cc
numbers-all types (n ∷ ns) [] are = absurd cc
numbers-all types (n ∷ ns) (t ∷ ts) are =
    let first : slice_get types n ≡ Some t = cc in
    All-cons (λ i. i < length types) n ns (slice_get_within types n t first) (numbers-all types ns ts cc)

module _ (c : TypeList) (depths : List ℕ) where
  abbrev Ds : List Decl
  Ds = c.decls.list

  abbrev At : ℕ → Term
  At n = type_at c.types n

  -- an interface whose row is right, below a height
  pub record IsReady (rows : List (List ℕ)) (k j : ℕ) : Type 0 where
    pub inside : j < length c.types
    pub right : IsReached c depths j (get_or rows j [])
    pub low : rank_of Ds depths (At j) < k

  rows_within : (rows : List (List ℕ)) (k : ℕ) (js : List ℕ) → All (IsReady rows k) js → AreWithin c.types (flat_map (with_row rows) js)
  rows_within rows k [] ready = All-nil (λ i. i < length c.types)
  rows_within rows k (j ∷ js) ready =
      let here = All-head (IsReady rows k) j js ready in
      All-append (λ i. i < length c.types) (with_row rows j) (flat_map (with_row rows) js) (All-cons (λ i. i < length c.types) j (get_or rows j []) here.inside here.right.within) (rows_within rows k js (All-tail (IsReady rows k) j js ready))

  -- a row with its interface is the interface's tree, once the first ones alone count
  row_tree : (rows : List (List ℕ)) (k j : ℕ) (acc : List Term) → IsReady rows k j → insert_all term_eq acc (types_of c.types (with_row rows j)) ≡ insert_all term_eq acc (tree Ds k (At j))
  row_tree rows zero j acc ready = absurd (omega (arith, ready.low))
  row_tree rows (suc k) j acc ready =
      let low : rank_of Ds depths (At j) ≤ k = omega (arith, ready.low) in
      let next = insert_key term_eq acc (At j) in
      ap (insert_all term_eq next) (ready.right.whole k low) ∙ insert-firsts next (flat_map (tree Ds k) (named_of Ds (At j))) ∙ ap (insert_all term_eq acc) (sym (tree-more Ds k (At j)))

  rows_trees : (rows : List (List ℕ)) (k : ℕ) (js : List ℕ) (acc : List Term) → All (IsReady rows k) js → insert_all term_eq acc (types_of c.types (flat_map (with_row rows) js)) ≡ insert_all term_eq acc (flat_map (tree Ds k) (types_of c.types js))
  rows_trees rows k [] acc ready = refl
  rows_trees rows k (j ∷ js) acc ready =
      let xs = types_of c.types (with_row rows j) in
      let ys = types_of c.types (flat_map (with_row rows) js) in
      let t = tree Ds k (At j) in
      let ts = flat_map (tree Ds k) (types_of c.types js) in
      ap (insert_all term_eq acc) (map-append At (with_row rows j) (flat_map (with_row rows) js))
      ∙ fold-append (insert_key term_eq) acc xs ys
      ∙ ap (λ l. insert_all term_eq l ys) (row_tree rows k j acc (All-head (IsReady rows k) j js ready))
      ∙ rows_trees rows k js (insert_all term_eq acc t) (All-tail (IsReady rows k) j js ready)
      ∙ sym (fold-append (insert_key term_eq) acc t ts)

  all_ready : (rows : List (List ℕ)) (n : ℕ) → ((j : ℕ) → j < length c.types → rank_of Ds depths (At j) < n → IsReached c depths j (get_or rows j [])) → (js : List ℕ) → AreWithin c.types js → All (λ i. rank_of Ds depths i < n) (types_of c.types js) → All (IsReady rows n) js
  all_ready rows n right [] within low = All-nil (IsReady rows n)
  all_ready rows n right (j ∷ js) within low =
      let inside = All-head (λ i. i < length c.types) j js within in
      let here = All-head (λ i. rank_of Ds depths i < n) (At j) (types_of c.types js) low in
      All-cons (IsReady rows n) j js (record { inside = inside; right = right j inside here; low = here }) (all_ready rows n right js (All-tail (λ i. i < length c.types) j js within) (All-tail (λ i. rank_of Ds depths i < n) (At j) (types_of c.types js) low))

  raise : (rows : List (List ℕ)) (n k : ℕ) (js : List ℕ) → n ≤ k → All (IsReady rows n) js → All (IsReady rows k) js
  raise rows n k js le all = λ i d within. let here = all i d within in record { inside = here.inside; right = here.right; low = omega (arith, here.low) }

  -- rows of some ranks
  module _ (ranks : List ℕ) where
    -- as far as the next type of the rank
    pub rows-skip : length ranks ≡ length c.types → (rank from : ℕ) (next : Option ℕ) (reached maps : List (List ℕ)) → IsNextAt ranks rank from next → AreRowsTo c depths ranks rank from reached maps → AreRowsTo c depths ranks rank (or_end next) reached maps
    rows-skip long rank from next reached maps are before = record {
      reached_count = before.reached_count;
      maps_count = before.maps_count;
      each = λ j within which. elim which [
        | inl less ↦ before.each j within (inl less)
        | inr same ↦ before.each j within (inr (same.0, none_between ranks rank from next are j (omega (arith, within, long)) same.0 same.1))
      ];
    }

    pub rows-next : (rank t : ℕ) (reached maps : List (List ℕ)) → length c.types ≤ t → AreRowsTo c depths ranks rank t reached maps → AreRowsTo c depths ranks (rank + 1) 0 reached maps
    rows-next rank t reached maps past before = record {
      reached_count = before.reached_count;
      maps_count = before.maps_count;
      each = λ j within which. elim which [
        | inl less ↦ elim (cases_lt (get_or ranks j 0) rank) [
          | inl low ↦ before.each j within (inl low)
          | inr high ↦ before.each j within (inr (omega (arith, less, high), omega (arith, within, past)))
        ]
        | inr same ↦ absurd (omega (arith, same.1))
      ];
    }

    pub rows-start : (reached maps : List (List ℕ)) → length reached ≡ length c.types → length maps ≡ length c.types → AreRowsTo c depths ranks 0 0 reached maps
    rows-start reached maps a b = record { reached_count = a; maps_count = b; each = λ j within which. elim which [ inl less ↦ absurd (omega (arith, less)) | inr same ↦ absurd (omega (arith, same.1)) ] }

    pub rows-end : length ranks ≡ length c.types → (rank : ℕ) (reached maps : List (List ℕ)) → ((t : ℕ) → t < length ranks → get_or ranks t 0 < rank) → AreRowsTo c depths ranks rank 0 reached maps → AreRows c depths reached maps
    rows-end long rank reached maps all before = record {
      reached_count = before.reached_count;
      maps_count = before.maps_count;
      each = λ t within. before.each t within (inl (all t (omega (arith, within, long))));
    }

  module _ (distinct : IsDistinct c.types) (h : IsHierarchy c.decls.list depths) where
    pub reached-right : (rows : List (List ℕ)) (t : ℕ) (row : List ℕ) → ((j : ℕ) → j < length c.types → rank_of Ds depths (At j) < rank_of Ds depths (At t) → IsReached c depths j (get_or rows j [])) → IsReachedFrom c rows t row → IsReached c depths t row
    reached-right rows t row right from =
        let n = rank_of Ds depths (At t) in
        let named = from.named in
        let are : types_of c.types named ≡ named_of Ds (At t) = types_of-numbers c.types named (named_of Ds (At t)) from.numbers in
        let within = numbers-all c.types named (named_of Ds (At t)) from.numbers in
        let low = subst (All (λ i. rank_of Ds depths i < n)) (sym are) (named-falls Ds depths h (At t)) in
        let ready = all_ready rows n right named within low in
        let inside = rows_within rows n named ready in
        record {
          within = subst (AreWithin c.types) (sym from.made) (inserts-within c.types distinct [] (flat_map (with_row rows) named) (All-nil (λ i. i < length c.types)) inside);
          whole = λ k le.
              ap (types_of c.types) from.made
              ∙ inserts-types c.types distinct [] (flat_map (with_row rows) named) (All-nil (λ i. i < length c.types)) inside
              ∙ rows_trees rows k named [] (raise rows n k named le ready)
              ∙ ap (λ ts. firsts (flat_map (tree Ds k) ts)) are;
        }

    pub own-are : (t : ℕ) (row own : List ℕ) (b : Bool) → is_interface_type Ds (At t) ≡ b → IsReached c depths t row → AreOwn c row t own → AreWithin c.types own × AreInterfaces Ds (At t) (types_of c.types own)
    own-are t row own false is right owned =
        let same = owned.class is in (
          subst (AreWithin c.types) (sym same) right.within,
          record {
            class = λ _. record { height = rank_of Ds depths (At t); whole = λ k le. ap (types_of c.types) same ∙ right.whole k le };
            other = λ e. absurd cc;
          },
        )
    own-are t row own true is right owned =
        let same = owned.other is in (
          subst (AreWithin c.types) (sym same) (All-nil (λ i. i < length c.types)),
          record { class = λ e. absurd cc; other = λ _. ap (types_of c.types) same },
        )

    -- what the base gives: the levels above, and the interfaces of them
    pub record IsAbove (t : ℕ) (more : List ℕ) : Type 0 where
      pub within : AreWithin c.types more
      pub levels : List Level
      pub lineage : IsLineage Ds (base_of Ds (At t)) levels
      pub all : types_of c.types more ≡ all_interfaces levels

    above_is : (rows : List (List ℕ)) (t : ℕ) (b : Option ℕ) (base : Option Term) → base_of Ds (At t) ≡ base → AreNumbers c.types (option_to_list b) (option_to_list base) → ((j : ℕ) → j < length c.types → rank_of Ds depths (At j) < rank_of Ds depths (At t) → IsMap c j (get_or rows j [])) → IsAbove t (row_of rows b)
    above_is rows t None None is are right = record {
      within = All-nil (λ i. i < length c.types);
      levels = [];
      lineage = subst (λ o. IsLineage Ds o []) (sym is) tt;
      all = refl;
    }
    above_is rows t None (Some x) is are right = absurd cc
    above_is rows t (Some b) None is are right = absurd cc
    above_is rows t (Some b) (Some x) is are right =
        let here : slice_get c.types b ≡ Some x = cc in
        let same = number-type c.types b x here in
        let inside = slice_get_within c.types b x here in
        let lower = base-falls Ds depths h (At t) x is in
        let map = right b inside (omega (arith, lower, ap (rank_of Ds depths) same)) in
        record {
          within = map.within;
          levels = map.levels;
          lineage = subst (λ o. IsLineage Ds o map.levels) (ap Some same ∙ sym is) map.lineage;
          all = map.all;
        }

    pub map-right : (rows : List (List ℕ)) (t : ℕ) (reached own row : List ℕ) → ((j : ℕ) → j < length c.types → rank_of Ds depths (At j) < rank_of Ds depths (At t) → IsMap c j (get_or rows j [])) → IsReached c depths t reached → AreOwn c reached t own → IsMapFrom c own rows t row → IsMap c t row
    map-right rows t reached own row right is owned from =
        let mine = own-are t reached own (is_interface_type Ds (At t)) refl is owned in
        let above = above_is rows t from.base (base_of Ds (At t)) refl from.numbers right in
        let more = row_of rows from.base in
        let none = All-nil (λ i. i < length c.types) in
        let first = inserts-within c.types distinct [] own none mine.0 in
        let types = types_of c.types own in
        let rest = flat_map (λ (l : Level). l.interfaces) above.levels in
        record {
          within = subst (AreWithin c.types) (sym from.made) (inserts-within c.types distinct (insert_all nat_eq [] own) more first above.within);
          levels = record { type = At t; interfaces = types } ∷ above.levels;
          lineage = (refl, mine.1, above.lineage);
          all = ap (types_of c.types) from.made
              ∙ inserts-types c.types distinct (insert_all nat_eq [] own) more first above.within
              ∙ ap (λ l. insert_all term_eq l (types_of c.types more)) (inserts-types c.types distinct [] own none mine.0)
              ∙ ap (insert_all term_eq (firsts types)) above.all
              ∙ insert-firsts (firsts types) rest
              ∙ sym (fold-append (insert_key term_eq) [] types rest);
        }

    module _ (ranks : List ℕ) (are : AreRanks c.decls.list depths c.types ranks) where
      fill_others : (rank t : ℕ) (reached maps : List (List ℕ)) → AreRowsTo c depths ranks rank t reached maps → get_or ranks t 0 ≡ rank → t < length c.types → (j : ℕ) → j < length c.types → rank_of Ds depths (At j) < rank_of Ds depths (At t) → IsReached c depths j (get_or reached j []) × IsMap c j (get_or maps j [])
      fill_others rank t reached maps before is inside j within lower =
          before.each j within (inl (omega (arith, is, are.each t inside, are.each j within, lower)))

      pub rows-fill : (rank t : ℕ) (reached maps new_reached new_maps : List (List ℕ)) → get_or ranks t 0 ≡ rank → t < length c.types → AreRowsTo c depths ranks rank t reached maps → IsFilled c t reached maps new_reached new_maps → AreRowsTo c depths ranks rank (t + 1) new_reached new_maps
      rows-fill rank t reached maps new_reached new_maps is inside before filled =
          let others = fill_others rank t reached maps before is inside in
          let reached_in : t < length reached = omega (arith, before.reached_count, inside) in
          let maps_in : t < length maps = omega (arith, before.maps_count, inside) in
          let row_is : get_or new_reached t [] ≡ filled.row = ap (λ (l : List (List ℕ)). get_or l t []) filled.reached_is ∙ get_or-set_same reached t filled.row [] reached_in in
          let map_is : get_or new_maps t [] ≡ filled.map_row = ap (λ (l : List (List ℕ)). get_or l t []) filled.maps_is ∙ get_or-set_same maps t filled.map_row [] maps_in in
          let row_right = subst (IsReached c depths t) (sym row_is) (reached-right reached t filled.row (λ j within lower. (others j within lower).0) filled.from) in
          let map_right = subst (IsMap c t) (sym map_is) (map-right maps t (get_or new_reached t []) filled.own filled.map_row (λ j within lower. (others j within lower).1) row_right filled.owned filled.map_from) in
          record {
            reached_count = ap length filled.reached_is ∙ length-set reached t filled.row ∙ before.reached_count;
            maps_count = ap length filled.maps_is ∙ length-set maps t filled.map_row ∙ before.maps_count;
            each = λ j within which. elim (cases_order j t) [
              | inl same ↦ (subst (λ k. IsReached c depths k (get_or new_reached k [])) (sym same) row_right, subst (λ k. IsMap c k (get_or new_maps k [])) (sym same) map_right)
              | inr differs ↦ (
                  let differ : j ≡ t → ⊥ = λ e. elim differs [ inl lt ↦ omega (arith, e, lt) | inr gt ↦ omega (arith, e, gt) ] in
                  let old = before.each j within (elim which [
                    | inl less ↦ inl less
                    | inr same ↦ inr (same.0, elim differs [ inl lt ↦ lt | inr gt ↦ absurd (omega (arith, same.1, gt)) ])
                  ]) in
                  let reached_read : get_or new_reached j [] ≡ get_or reached j [] = ap (λ (l : List (List ℕ)). get_or l j []) filled.reached_is ∙ get_or-set_other reached t j filled.row [] differ in
                  let maps_read : get_or new_maps j [] ≡ get_or maps j [] = ap (λ (l : List (List ℕ)). get_or l j []) filled.maps_is ∙ get_or-set_other maps t j filled.map_row [] differ in
                  (subst (IsReached c depths j) (sym reached_read) old.0, subst (IsMap c j) (sym maps_read) old.1)
                  )
            ];
          }
