-- Rows that are made one after another.
use Rattle.std.proofs.Common.{◌≡◌, ℕ, ◌+◌, ◌<◌, ◌≤◌, inl, inr, List, [], ◌∷◌, ◌++◌, length, get_or, All, Option, Some, None, refl, sym, ap, ◌∙◌, subst, arith, get_or-set_same, get_or-set_other}
use Rattle.std.specs.List.{slice_set}
use Rattle.std.proofs.lemmas.Bool.{cases_lt, cases_order}
use Rattle.std.proofs.lemmas.List.{get_or_append_left, get_or_push, length-append, length-set}
use Rattle.std.proofs.lemmas.Option.{get_or_from_slice_get, slice_get_within}
use Rattle.vsd_ast.specs.declared.declarations.Decl.{Decl}
use Rattle.vsd_ast.specs.Lookup.{Head, named, parameter, built_in, declared, head_of}
use Rattle.vsd_ast.specs.WellFormed.{IsDeclaration}
use Rattle.vsd_types.specs.TypeList.{TypeList}
use Rattle.vsd_types.specs.Types.{declaration_of_head, type_at}
use Rattle.vsd_types.proofs.Declared.{declared-All}
use Rattle.vsd_methods.specs.Methods.{methods_in}
use Rattle.vsd_slots.specs.Missing.{AreShort}
use Rattle.vsd_slots.specs.Rows.{AreRight, Fills, IsColumnOf, IsFull, IsMade, IsRow, IsRowOf}
use Rattle.vsd_slots.specs.Slots.{AreFilled, AreMade, IsClassDone}
use Rattle.vsd_slots.specs.declared.entries.Entry.{Entry}
use Rattle.vsd_slots.specs.declared.rows.Rows.{Rows}

-- a type has few methods
few_methods : (ds : List Decl) (names : ℕ) → All (IsDeclaration names) ds → (g : Head) → length (methods_in (declaration_of_head ds g)) ≤ 256
few_methods ds names written (named name) = by (declared ds name) refl
  where
    by : (o : Option Decl) → declared ds name ≡ o → length (methods_in o) ≤ 256
    by None is = omega arith
    by (Some x) is = (declared-All (IsDeclaration names) ds name x written is).few_methods
few_methods ds names written (parameter place) = omega arith
few_methods ds names written (built_in b) = omega arith

pub short-row : (c : TypeList) (columns : List (List Entry)) (t : ℕ) (interfaces row : List ℕ) → IsRow c columns t interfaces (length interfaces) row → All (IsDeclaration (length c.decls.names)) c.decls.list → AreShort columns row
short-row c columns t interfaces row filled written = λ k within.
    let number = filled.each k (omega (arith, within, filled.long)) in
    let few = few_methods c.decls.list (length c.decls.names) written (head_of (type_at c.types (get_or interfaces k 0))) in
    record { within = number.within; holds = omega (arith, number.holds.long, few) }

-- one more column
pub row-push : (c : TypeList) (columns : List (List Entry)) (t : ℕ) (interfaces : List ℕ) (k : ℕ) (row new : List ℕ) (n : ℕ) → IsRow c columns t interfaces k row → new ≡ row ++ n ∷ [] → IsColumnOf c columns t (get_or interfaces k 0) n → IsRow c columns t interfaces (k + 1) new
row-push c columns t interfaces k row new n before is mine = record {
  long = ap length is ∙ length-append row (n ∷ []) ∙ ap (λ m. m + 1) before.long;
  each = λ j within. elim (cases_lt j k) [
    | inl low ↦ (
        let read : get_or new j 0 ≡ get_or row j 0 = ap (λ (l : List ℕ). get_or l j 0) is ∙ get_or_append_left row (n ∷ []) 0 j (omega (arith, before.long, low)) in
        subst (IsColumnOf c columns t (get_or interfaces j 0)) (sym read) (before.each j low)
        )
    | inr high ↦ (
        let last : k ≡ j = omega (arith, within, high) in
        let read : get_or new k 0 ≡ n = ap (λ (l : List ℕ). get_or l k 0) is ∙ get_or_push row n 0 k before.long in
        subst (λ m. IsColumnOf c columns t (get_or interfaces m 0) (get_or new m 0)) last (subst (IsColumnOf c columns t (get_or interfaces k 0)) (sym read) mine)
        )
  ];
}

pub row-none : (c : TypeList) (columns : List (List Entry)) (t : ℕ) (interfaces : List ℕ) → IsRow c columns t interfaces 0 []
row-none c columns t interfaces = record { long = refl; each = λ k within. absurd (omega (arith, within)) }

module _ (c : TypeList) (maps : List (List ℕ)) where
  -- a row that is made has the columns of its type
  pub made-number : (columns : List (List Entry)) (rows : List (List ℕ)) (t i n : ℕ) → AreRight c maps columns rows → t < length c.types → IsMade maps rows t i n → IsColumnOf c columns t i n
  made-number columns rows t i n right within made =
      let map = get_or maps t [] in
      let inside = slice_get_within map made.place i made.stands in
      let here = (right.each t within made.full).each made.place inside in
      let same : get_or map made.place 0 ≡ i = get_or_from_slice_get map made.place i 0 made.stands in
      subst (IsColumnOf c columns t i) (sym made.number_is) (subst (λ (j : ℕ). IsColumnOf c columns t j (get_or (get_or rows t []) made.place 0)) same here)

  -- where no row is made, none is wrong
  pub right-none : (columns : List (List Entry)) (rows : List (List ℕ)) → length rows ≡ length c.types → ((t : ℕ) → t < length c.types → get_or rows t [] ≡ []) → AreRight c maps columns rows
  right-none columns rows count none = record {
    count = count;
    each = λ t within full.
        let zero : length (get_or maps t []) ≡ 0 = sym full ∙ ap length (none t within) in
        record { long = full; each = λ k inside. absurd (omega (arith, inside, zero)) };
  }

  pub fills-set : (columns : List (List Entry)) (t : ℕ) (rows new : List (List ℕ)) (row : List ℕ) → AreRight c maps columns rows → t < length c.types → IsRowOf c maps columns t row → new ≡ slice_set rows t row → Fills c maps columns t rows new
  fills-set columns t rows new row right within made is =
      let inside : t < length rows = omega (arith, right.count, within) in
      let here : get_or new t [] ≡ row = ap (λ (l : List (List ℕ)). get_or l t []) is ∙ get_or-set_same rows t row [] inside in
      let other : (u : ℕ) → (u ≡ t → ⊥) → get_or new u [] ≡ get_or rows u [] = λ u differs. ap (λ (l : List (List ℕ)). get_or l u []) is ∙ get_or-set_other rows t u row [] differs in
      let full : IsFull maps t new = ap length here ∙ made.long in
      record {
        right = record {
          count = ap length is ∙ length-set rows t row ∙ right.count;
          each = λ u u_in u_full. elim (cases_order u t) [
            | inl same ↦ subst (λ k. IsRowOf c maps columns k (get_or new k [])) (sym same) (subst (IsRowOf c maps columns t) (sym here) made)
            | inr which ↦ (
                let read = other u (λ e. elim which [ inl lt ↦ omega (arith, e, lt) | inr gt ↦ omega (arith, e, gt) ]) in
                subst (IsRowOf c maps columns u) (sym read) (right.each u u_in (ap length (sym read) ∙ u_full))
                )
          ];
        };
        full = full;
        kept = λ u was. elim (cases_order u t) [
          | inl same ↦ subst (λ k. IsFull maps k new) (sym same) full
          | inr which ↦ ap length (other u (λ e. elim which [ inl lt ↦ omega (arith, e, lt) | inr gt ↦ omega (arith, e, gt) ])) ∙ was
        ];
      }

  pub fills-nothing : (columns : List (List Entry)) (t : ℕ) (rows : List (List ℕ)) → AreRight c maps columns rows → IsFull maps t rows → Fills c maps columns t rows rows
  fills-nothing columns t rows right full = record { right = right; full = full; kept = λ u was. was }

  pub fills-after : (before after : List (List Entry)) (b t : ℕ) (rows mid new : List (List ℕ)) → Fills c maps before b rows mid → Fills c maps after t mid new → Fills c maps after t rows new
  fills-after before after b t rows mid new first second = record { right = second.right; full = second.full; kept = λ u was. second.kept u (first.kept u was) }

  module _ (end : ℕ) where
    pub made-more : (t : ℕ) (rows new : Rows) → AreMade c maps end t rows → IsClassDone c maps end t rows new → AreMade c maps end (t + 1) new
    made-more t rows new before done = record {
      right = done.right;
      full = λ all u within. elim (cases_lt u t) [
        | inl low ↦ done.kept u (before.full all u low)
        | inr high ↦ let same : t ≡ u = omega (arith, within, high) in subst (λ k. IsFull maps k new.numbers) same (done.full all)
      ];
    }

    pub made-start : (rows : Rows) → AreRight c maps rows.columns rows.numbers → AreMade c maps end 0 rows
    made-start rows right = record { right = right; full = λ all u within. absurd (omega (arith, within)) }

    pub all-filled : (rows : Rows) → end ≡ length c.types → AreMade c maps end end rows → AreFilled c (length c.types) maps rows
    all-filled rows all made = record {
      long = made.right.count;
      each = λ t within. made.right.each t within (made.full all t (omega (arith, within, all)));
    }
