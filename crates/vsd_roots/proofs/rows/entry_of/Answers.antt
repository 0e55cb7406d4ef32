use Rattle.std.proofs.Common.{◌≡◌, ℕ, ◌<◌, List, [], length, get_or, refl, sym, ap, ◌∙◌, subst, Option, IsSome, inl, inr, arith}
use Rattle.std.specs.List.{slice_get}
use Rattle.std.proofs.lemmas.Bool.{false≢true}
use Rattle.std.proofs.lemmas.List.{get_or_default, get_or_past}
use Rattle.std.proofs.lemmas.Bool.{cases_lt}
use Rattle.std.proofs.lemmas.Option.{slice_get_cases, slice_get_read}
use Rattle.vsd_roots.specs.Methods.{entry}
use Rattle.vsd_roots.specs.declared.place.Place.{Place}
use Rattle.vsd_roots.proofs.rows.entry_of.Goals as goal

some_within : {A : Type 0} (xs : List A) (i : ℕ) → IsSome (slice_get xs i) → i < length xs
some_within {A} xs i some =
    let P : Option A → Type 0 = λ o. IsSome o in
    elim (slice_get_cases xs i).1 [ inl w ↦ w.1 | inr past ↦ absurd (false≢true (subst P past.1 some)) ]

-- the row that is read is that of the entry
row_is : {A : Type 0} (table : List (List A)) (at : Place) (row : List A) → IsSome (entry table at) → row ≡ get_or table at.decl row → row ≡ get_or table at.decl []
row_is {A} table at row some is =
    elim (cases_lt at.decl (length table)) [
      | inl lt ↦ is ∙ get_or_default table at.decl row [] lt
      | inr ge ↦ (
          let none : List A = [] in
          let P : List A → Type 0 = λ l. IsSome (slice_get l at.method) in
          absurd (false≢true (subst P (get_or_past table at.decl none ge) some))
          )
    ]

within_row : {A : Type 0} (table : List (List A)) (at : Place) (row read : List A) → IsSome (entry table at) → row ≡ get_or table at.decl row → read ≡ row → at.method < length read
within_row {A} table at row read some is same =
    let P : List A → Type 0 = λ l. IsSome (slice_get l at.method) in
    some_within read at.method (subst P (sym (same ∙ row_is table at row some is)) some)

pub offset_bounds-as_slice-at : goal.offset_bounds-as_slice-at
offset_bounds-as_slice-at g c =
    let within = within_row c.args.table.now c.args.at c.index-table-at.result c.as_slice.result.now c.requires c.index-table-at.is c.as_slice.ensures in
    omega arith

pub bounds-as_slice-at : goal.bounds-as_slice-at
bounds-as_slice-at g c =
    within_row c.args.table.now c.args.at c.index-table-at.result c.as_slice.result.now c.requires c.index-table-at.is c.as_slice.ensures

pub returns : goal.returns
returns g c =
    let within = within_row c.args.table.now c.args.at c.index-table-at.result c.as_slice.result.now c.requires c.index-table-at.is c.as_slice.ensures in
    let read = slice_get_read c.as_slice.result.now (length c.as_slice.result.now) c.args.at.method c.index-as_slice-at.result refl within c.index-as_slice-at.is in
    ap (λ l. slice_get l c.args.at.method) (sym (c.as_slice.ensures ∙ row_is c.args.table.now c.args.at c.index-table-at.result c.requires c.index-table-at.is)) ∙ read
