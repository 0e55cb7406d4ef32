-- A class with nothing of its own has the row of its base.
use Rattle.std.proofs.Common.{◌≡◌, ℕ, ◌<◌, false, List, [], ◌∷◌, ◌++◌, length, get_or, Option, Some, refl, sym, ap, ◌∙◌, subst, arith}
use Rattle.std.specs.List.{flat_map}
use Rattle.std.proofs.lemmas.Bool.{le-ltb}
use Rattle.std.proofs.lemmas.List.Elements.{All-head, All-tail}
use Rattle.vsd_terms.specs.declared.term.Term.{Term}
use Rattle.vsd_ast.specs.Hierarchy.{IsHierarchy}
use Rattle.vsd_types.specs.Numbers.{IsDistinct}
use Rattle.vsd_types.specs.TypeList.{TypeList}
use Rattle.vsd_types.specs.Types.{base_of, is_interface_type, type_at}
use Rattle.vsd_slots.specs.Columns.{IsColumn}
use Rattle.vsd_slots.specs.Entries.{IsBare, IsHaving}
use Rattle.vsd_slots.specs.Rows.{IsRow}
use Rattle.vsd_slots.specs.declared.entries.Entry.{Entry}
use Rattle.vsd_interfaces.specs.Interfaces.{AreInterfaces, firsts}
use Rattle.vsd_interfaces.specs.Lineage.{IsLineage, Level, all_interfaces}
use Rattle.vsd_interfaces.specs.Tables.{AreOwn, IsMap, IsReached, types_of}
use Rattle.vsd_interfaces.proofs.NumberLaws.{AreWithin, same_number}
use Rattle.vsd_interfaces.proofs.RowLaws.{own-are}
use Rattle.vsd_interfaces.proofs.UniqueLaws.{interfaces-unique, lineage-unique}
use Rattle.vsd_slots.proofs.ColumnLaws.{stepped-column, unchanged-steps}
use Rattle.vsd_slots.proofs.OwnLaws.{having-own}

-- types that are numbered once have one list of numbers
same_numbers : (types : List Term) → IsDistinct types → (xs ys : List ℕ) → AreWithin types xs → AreWithin types ys
    → types_of types xs ≡ types_of types ys → xs ≡ ys
same_numbers types distinct [] [] low high same = refl
same_numbers types distinct [] (y ∷ ys) low high same = absurd cc
same_numbers types distinct (x ∷ xs) [] low high same = absurd cc
same_numbers types distinct (x ∷ xs) (y ∷ ys) low high same =
    let P : ℕ → Type 0 = λ i. i < length types in
    let head : type_at types x ≡ type_at types y = cc in
    let tail : types_of types xs ≡ types_of types ys = cc in
    let first : x ≡ y = same_number types distinct x y (All-head P x xs low) (All-head P y ys high) head in
    let rest : xs ≡ ys = same_numbers types distinct xs ys (All-tail P x xs low) (All-tail P y ys high) tail in
    λ i. first i ∷ rest i

no_types : (types : List Term) (ns : List ℕ) → length ns ≡ 0 → types_of types ns ≡ []
no_types types [] none = refl
no_types types (n ∷ ns) none = absurd (omega (arith, none))

module _ (c : TypeList) (t b : ℕ) (is : base_of c.decls.list (type_at c.types t) ≡ Some (type_at c.types b)) where
  -- a class that names no interface has those of its base
  base_types : (ns above : List ℕ) → AreInterfaces c.decls.list (type_at c.types t) [] → IsMap c b above
      → (levels : List Level) → IsLineage c.decls.list (Some (type_at c.types t)) levels
      → types_of c.types ns ≡ all_interfaces levels → types_of c.types ns ≡ types_of c.types above
  base_types ns above none over [] lineage all = absurd lineage
  base_types ns above none over (l ∷ rest) lineage all =
      let ds = c.decls.list in
      let more = flat_map (λ (l : Level). l.interfaces) rest in
      let empty : l.interfaces ≡ [] = interfaces-unique ds (type_at c.types t) l.interfaces [] lineage.1 none in
      let base : IsLineage ds (Some (type_at c.types b)) rest = subst (λ (o : Option Term). IsLineage ds o rest) is lineage.2 in
      let same : rest ≡ over.levels = lineage-unique ds (Some (type_at c.types b)) rest over.levels base over.lineage in
      all ∙ ap (λ (ts : List Term). firsts (ts ++ more)) empty ∙ ap all_interfaces same ∙ sym over.all

  module _ (depths : List ℕ) (distinct : IsDistinct c.types) (h : IsHierarchy c.decls.list depths) (reached own : List ℕ)
      (right : IsReached c depths t reached) (owned : AreOwn c reached t own) (none : length own ≡ 0) where
    base_map : (ns above : List ℕ) → IsMap c t ns → IsMap c b above → ns ≡ above
    base_map ns above mine over =
        let ds = c.decls.list in
        let T = type_at c.types t in
        let own_is : AreInterfaces ds T (types_of c.types own) =
        (own-are c depths distinct h t reached own (is_interface_type ds T) refl right owned).1 in
        let empty : AreInterfaces ds T [] = subst (AreInterfaces ds T) (no_types c.types own none) own_is in
        let same = base_types ns above empty over mine.levels mine.lineage mine.all in
        same_numbers c.types distinct ns above mine.within over.within same

    pub row-inherited : (columns : List (List Entry)) (ns above row : List ℕ) → IsMap c t ns → IsMap c b above → IsBare c t
        → IsRow c columns b above (length above) row → IsRow c columns t ns (length ns) row
    row-inherited columns ns above row mine over bare made =
        let same = base_map ns above mine over in
        let here : IsRow c columns b ns (length ns) row = subst (λ (l : List ℕ). IsRow c columns b l (length l) row) (sym same) made in
        record {
          long = here.long;
          each = λ k within.
              let i = get_or ns k 0 in
              let number = here.each k within in
              let column = get_or columns (get_or row k 0) [] in
              let listed : i < length c.types = mine.within k 0 within in
              let base : IsColumn c (base_of c.decls.list (type_at c.types t)) i column =
              subst (λ (o : Option Term). IsColumn c o i column) (sym is) number.holds in
              let tested = having-own c t depths distinct h reached own ns k right owned mine within in
              let having : IsHaving c t i false = subst (IsHaving c t i) (le-ltb k (length own) (omega (arith, none))) tested in
              record { within = number.within; holds = stepped-column c t i column column base (unchanged-steps c t i column listed base bare having) };
        }
