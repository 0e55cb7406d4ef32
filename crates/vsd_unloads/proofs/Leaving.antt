-- What the steps of an unload leave of the caller's view.
use Rattle.std.proofs.Common.{◌≡◌, ℕ, Bool, true, false, cond, nat_eq, Option, Some, None, refl, ◌∙◌, ap}
use Rattle.vsd_words.specs.declared.handle.Handle.{Handle}
use Rattle.vsd_words.specs.declared.cell_word.CellWord.{CellWord}
use Rattle.vsd_words.specs.declared.cell_word.CellWord.TheVariants.{Lookup, Resolve, Dispatch}
use Rattle.vsd_words.specs.CellWord.{packed_cell}
use Rattle.vsd_rule.specs.declared.row_view.RowView.{RowView}
use Rattle.vsd_rule.specs.declared.row_view.Keeping.TheVariants.{Unlinked}
use Rattle.vsd_rule.specs.declared.view.View.{View}
use Rattle.vsd_rule.specs.RowSteps.{keeps_row, after_cell, after_to_lookup, after_bucket, after_empty_bucket}
use Rattle.vsd_rows.specs.Hands.{after_handle}
use Rattle.vsd_rows.specs.Leaving.{Goes}
use Rattle.vsd_rows.proofs.Leaving.{goes_as}

pub cell_goes : (v w : View) (site : ℕ) (cell : CellWord) → w ≡ after_cell v site cell → Goes v w
cell_goes v w site Lookup is = goes_as v w (after_cell v site Lookup) is (record { pinned = refl; handles = refl })
cell_goes v w site Resolve is = goes_as v w (after_cell v site Resolve) is (record { pinned = refl; handles = refl })
cell_goes v w site (Dispatch row) is = goes_as v w (after_cell v site (Dispatch row)) is (record { pinned = refl; handles = refl })

pub look_goes : (v w : View) (bucket : ℕ) (named : Option ℕ) → w ≡ after_bucket v bucket named → Goes v w
look_goes v w bucket None is = goes_as v w (after_bucket v bucket None) is (record { pinned = refl; handles = refl })
look_goes v w bucket (Some row) is = goes_as v w (after_bucket v bucket (Some row)) is (record { pinned = refl; handles = refl })

pub handle_goes : (v w : View) (row : ℕ) (g : Handle) → w ≡ after_handle v row g → Goes v w
handle_goes v w row g is = goes_as v w (after_handle v row g) is (record { pinned = refl; handles = refl })

pub empty_goes : (v w : View) (bucket : ℕ) (out : Option ℕ) → w ≡ after_empty_bucket v bucket out → Goes v w
empty_goes v w bucket None is = goes_as v w (after_empty_bucket v bucket None) is (record { pinned = refl; handles = refl })
empty_goes v w bucket (Some row) is = goes_as v w (after_empty_bucket v bucket (Some row)) is (record { pinned = refl; handles = refl })

pub empty_limbo : (v w : View) (bucket : ℕ) (out : Option ℕ) → w ≡ after_empty_bucket v bucket out → w.rows.limbo ≡ v.rows.limbo
empty_limbo v w bucket None is = ap (λ (x : View). x.rows.limbo) is
empty_limbo v w bucket (Some row) is = ap (λ (x : View). x.rows.limbo) is

-- what is the same of two views of rows is so of one or the other
either_same : {A : Type 0} (of : RowView → A) (test : Bool) (d e : RowView) (a : A) → of d ≡ a → of e ≡ a → of (cond test d e) ≡ a
either_same of true d e a first second = first
either_same of false d e a first second = second

pub to_lookup_goes : (v w : View) (site row : ℕ) (found : CellWord) → w ≡ after_to_lookup v site row found → Goes v w
to_lookup_goes v w site row found is = goes_as v w (after_to_lookup v site row found) is (record {
  pinned = either_same (λ (d : RowView). d.pinned) (nat_eq (packed_cell found) (packed_cell (Dispatch row))) (keeps_row v.rows row Unlinked) v.rows v.rows.pinned refl refl;
  handles = refl;
})

pub to_lookup_limbo : (v w : View) (site row : ℕ) (found : CellWord) → w ≡ after_to_lookup v site row found → w.rows.limbo ≡ v.rows.limbo
to_lookup_limbo v w site row found is =
    ap (λ (x : View). x.rows.limbo) is
    ∙ either_same (λ (d : RowView). d.limbo) (nat_eq (packed_cell found) (packed_cell (Dispatch row))) (keeps_row v.rows row Unlinked) v.rows v.rows.limbo refl refl
