-- Numbers that are kept, and one more.
use Rattle.std.proofs.Common.{◌≡◌, ℕ, ◌+◌, ◌<◌, ◌⊎◌, inl, inr, List, [], ◌∷◌, ◌++◌, length, get_or, Some, sym, ap, ◌∙◌, subst, arith}
use Rattle.std.specs.List.{slice_get}
use Rattle.std.proofs.lemmas.Bool.{cases_lt}
use Rattle.std.proofs.lemmas.List.{get_or_append_left, get_or_push, length_push}
use Rattle.std.proofs.lemmas.Option.{same_Some, slice_get-get_or, slice_get_within}
use Rattle.vsd_types.specs.TypeList.{TypeList}
use Rattle.vsd_slots.specs.Kept.{AreKept}
use Rattle.vsd_slots.specs.Rows.{IsColumnOf}
use Rattle.vsd_slots.specs.declared.entries.Entry.{Entry}
use Rattle.vsd_slots.specs.declared.kept.Kept.{Kept}
use Rattle.vsd_slots.specs.declared.kept.KeptColumn.{KeptColumn}

last_one : (ks : List KeptColumn) (k found : KeptColumn) (place : ℕ) → slice_get (ks ++ k ∷ []) place ≡ Some found → (slice_get ks place ≡ Some found) ⊎ (k ≡ found)
last_one ks k found place at =
    let inside = slice_get_within (ks ++ k ∷ []) place found at in
    let within : place < length ks + 1 = omega (arith, inside, length_push ks k) in
    let here : get_or (ks ++ k ∷ []) place k ≡ found = same_Some (get_or (ks ++ k ∷ []) place k) found (sym (slice_get-get_or (ks ++ k ∷ []) place k inside) ∙ at) in
    elim (cases_lt place (length ks)) [
      | inl low ↦ inl (slice_get-get_or ks place k low ∙ ap Some (sym (get_or_append_left ks (k ∷ []) k place low) ∙ here))
      | inr high ↦ (
          let last : place ≡ length ks = omega (arith, within, high) in
          inr (sym (get_or_push ks k k place (sym last)) ∙ here)
          )
    ]

pub kept-more : (c : TypeList) (columns : List (List Entry)) (old new : Kept) (t i n : ℕ) → new.columns ≡ old.columns ++ record { class = t; interface = i; number = n } ∷ []
    → IsColumnOf c columns t i n → AreKept c columns old → AreKept c columns new
kept-more c columns old new t i n is mine are = λ u j m kept.
    let k : KeptColumn = record { class = t; interface = i; number = n } in
    let found : KeptColumn = record { class = u; interface = j; number = m } in
    let at : slice_get (old.columns ++ k ∷ []) kept.place ≡ Some found = ap (λ (l : List KeptColumn). slice_get l kept.place) (sym is) ∙ kept.stands in
    elim (last_one old.columns k found kept.place at) [
      | inl before ↦ are u j m (record { place = kept.place; stands = before })
      | inr same ↦ subst (λ (x : KeptColumn). IsColumnOf c columns x.class x.interface x.number) same mine
    ]
