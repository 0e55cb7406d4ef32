-- What the calls on rows, cells and buckets leave of the caller's view.
use Rattle.std.proofs.Common.{◌≡◌, ℕ, Bool, true, false, cond, nat_eq, List, length, map, Option, Some, None, refl, sym, ◌∙◌, ap, subst}
use Rattle.std.proofs.lemmas.List.{length-map}
use Rattle.vsd_words.specs.declared.handle.Handle.{Handle}
use Rattle.vsd_words.specs.declared.cell_word.CellWord.{CellWord}
use Rattle.vsd_words.specs.declared.cell_word.CellWord.TheVariants.{Lookup, Dispatch}
use Rattle.vsd_words.specs.CellWord.{packed_cell}
use Rattle.vsd_rule.specs.declared.row_view.RetiredRow.{RetiredRow}
use Rattle.vsd_rule.specs.declared.row_view.RowView.{RowView}
use Rattle.vsd_rule.specs.declared.row_view.Keeping.TheVariants.{Elsewhere, Unlinked}
use Rattle.vsd_rule.specs.declared.view.View.{View}
use Rattle.vsd_rule.specs.Evidence.{HasEvidence}
use Rattle.vsd_rule.specs.RowSteps.{keeps_row, after_put_bucket, after_to_dispatch, after_to_resolve, after_free, after_count}
use Rattle.vsd_table.specs.declared.seated.Seated.{Seated}
use Rattle.vsd_table.specs.Seating.{view_of}
use Rattle.vsd_rows.specs.declared.limbo.Limbo.{Limbo}
use Rattle.vsd_rows.specs.Retired.{retired_row}
use Rattle.vsd_rows.specs.Makes.{StaysCaller}
use Rattle.vsd_rows.specs.Hands.{Claims, Retires, after_fill}
use Rattle.vsd_rows.proofs.Makes.{evidence_on}
use Rattle.vsd_rows.specs.Leaving.{Goes}

pub goes_not : (v : View) → Goes v v
goes_not v = record { pinned = refl; handles = refl }

pub goes_on : (u v w : View) → Goes u v → Goes v w → Goes u w
goes_on u v w first second = record { pinned = second.pinned ∙ first.pinned; handles = second.handles ∙ first.handles }

-- a view that is this one
pub goes_as : (v w after : View) → w ≡ after → Goes v after → Goes v w
goes_as v w after is goes = subst (λ (x : View). Goes v x) (sym is) goes

pub claims_go : (v w : View) (given : Option ℕ) → Claims v w given → Goes v w
claims_go v w None claims = record { pinned = ap (λ (x : View). x.rows.pinned) claims; handles = ap (λ (x : View). x.handles) claims }
claims_go v w (Some row) claims = record { pinned = ap (λ (x : View). x.rows.pinned) claims; handles = ap (λ (x : View). x.handles) claims }

pub fill_goes : (v w : View) (row : ℕ) (h : Handle) (token target : ℕ) → w ≡ after_fill v row h token target → Goes v w
fill_goes v w row h token target is = goes_as v w (after_fill v row h token target) is (record { pinned = refl; handles = refl })

pub put_goes : (v w : View) (bucket row : ℕ) (out : Option ℕ) → w ≡ after_put_bucket v bucket row out → Goes v w
put_goes v w bucket row None is = goes_as v w (after_put_bucket v bucket row None) is (record { pinned = refl; handles = refl })
put_goes v w bucket row (Some out) is = goes_as v w (after_put_bucket v bucket row (Some out)) is (record { pinned = refl; handles = refl })

pub retires_go : (v w : View) (row epoch : ℕ) → Retires v w row epoch → Goes v w
retires_go v w row epoch retires = record { pinned = ap (λ (x : View). x.rows.pinned) retires; handles = ap (λ (x : View). x.handles) retires }

pub free_goes : (v w : View) (row : ℕ) → w ≡ after_free v row → Goes v w
free_goes v w row is = goes_as v w (after_free v row) is (record { pinned = refl; handles = refl })

pub count_goes : (v w : View) (token found : ℕ) → w ≡ after_count v token found → Goes v w
count_goes v w token found is = goes_as v w (after_count v token found) is (record { pinned = refl; handles = refl })

either_pinned : (test : Bool) (d e : RowView) (n : ℕ) → d.pinned ≡ n → e.pinned ≡ n → (cond test d e).pinned ≡ n
either_pinned true d e n first second = first
either_pinned false d e n first second = second

either_limbo : (test : Bool) (d e : RowView) (l : List RetiredRow) → d.limbo ≡ l → e.limbo ≡ l → (cond test d e).limbo ≡ l
either_limbo true d e l first second = first
either_limbo false d e l first second = second

pub to_dispatch_goes : (v w : View) (site row : ℕ) (found : CellWord) → w ≡ after_to_dispatch v site row found → Goes v w
to_dispatch_goes v w site row found is = goes_as v w (after_to_dispatch v site row found) is (record {
  pinned = either_pinned (nat_eq (packed_cell found) (packed_cell Lookup)) (keeps_row v.rows row Elsewhere) v.rows v.rows.pinned refl refl;
  handles = refl;
})

pub to_resolve_goes : (v w : View) (site row : ℕ) (found : CellWord) → w ≡ after_to_resolve v site row found → Goes v w
to_resolve_goes v w site row found is = goes_as v w (after_to_resolve v site row found) is (record {
  pinned = either_pinned (nat_eq (packed_cell found) (packed_cell (Dispatch row))) (keeps_row v.rows row Unlinked) v.rows v.rows.pinned refl refl;
  handles = refl;
})

-- ---- limbo, which these calls leave

pub to_resolve_limbo : (v w : View) (site row : ℕ) (found : CellWord) → w ≡ after_to_resolve v site row found → w.rows.limbo ≡ v.rows.limbo
to_resolve_limbo v w site row found is =
    ap (λ (x : View). x.rows.limbo) is ∙ either_limbo (nat_eq (packed_cell found) (packed_cell (Dispatch row))) (keeps_row v.rows row Unlinked) v.rows v.rows.limbo refl refl

pub put_limbo : (v w : View) (bucket row : ℕ) (out : Option ℕ) → w ≡ after_put_bucket v bucket row out → w.rows.limbo ≡ v.rows.limbo
put_limbo v w bucket row None is = ap (λ (x : View). x.rows.limbo) is
put_limbo v w bucket row (Some out) is = ap (λ (x : View). x.rows.limbo) is

pub claims_limbo : (v w : View) (given : Option ℕ) → Claims v w given → w.rows.limbo ≡ v.rows.limbo
claims_limbo v w None claims = ap (λ (x : View). x.rows.limbo) claims
claims_limbo v w (Some row) claims = ap (λ (x : View). x.rows.limbo) claims

-- as many rows are in the hand's limbo as in its view's
pub same_length : (items : List Limbo) (limbo : List RetiredRow) → map retired_row items ≡ limbo → length items ≡ length limbo
same_length items limbo same = sym (length-map items retired_row) ∙ ap length same

-- ---- evidence stays

pub evidence_stays : (old new : Seated) (h : Handle) (token target : ℕ) → StaysCaller old new → HasEvidence (view_of old) h token target → HasEvidence (view_of new) h token target
evidence_stays old new h token target stays = evidence_on (view_of old) (view_of new) h token target stays.key stays.bindings stays.evidences
