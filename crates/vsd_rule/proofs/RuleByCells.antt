-- What each step on a cell, a counter or a bucket keeps of the whole rule.
use Rattle.std.proofs.Common.{◌≡◌, ◌≢◌, ℕ, zero, suc, ◌+◌, ◌<◌, ◌≤◌, Bool, cond, List, Option, Some, None, length, map, get_or, set, ap, sym, refl, ◌∙◌, subst, arith, eq-eqb, ne_eqb}
use Rattle.std.specs.Prelude.{nat_eq}
use Rattle.std.proofs.lemmas.List.{set-get_or}
use mathlib.Core.Option.{some}
use lib.ListN.{get_elem?}
use Rattle.vsd_words.specs.declared.handle.Handle.{Handle}
use Rattle.vsd_words.specs.declared.cell_word.CellWord.{CellWord}
use Rattle.vsd_words.specs.declared.cell_word.CellWord.TheVariants.{Lookup, Resolve, Dispatch}
use Rattle.vsd_words.specs.CellWord.{packed_cell, IsCellPacking}
use Rattle.vsd_words.proofs.Packings.{packed_cell-one_to_one}
use Rattle.vsd_rule.specs.declared.key.Key.{Key}
use Rattle.vsd_rule.specs.declared.row_view.Keeping.TheVariants.{Elsewhere, Private, Unlinked}
use Rattle.vsd_rule.specs.declared.row_view.RowView.{RowView}
use Rattle.vsd_rule.specs.declared.step.Act.{Act}
use Rattle.vsd_rule.specs.declared.step.Act.TheVariants.{LoadCell, ToDispatch, ToResolve, ToLookup, Count, LoadBucket, PutBucket, EmptyBucket}
use Rattle.vsd_rule.specs.declared.view.View.{View}
use Rattle.vsd_rule.specs.Layout.{counts_from, cells_from, buckets_from}
use Rattle.vsd_rule.specs.Lists.{site_token}
use Rattle.vsd_rule.specs.Zones.{Zones, zones}
use Rattle.vsd_rule.specs.Rows.{Rows, keeping_of}
use Rattle.vsd_rule.specs.Rule.{Rule, row_seat}
use Rattle.vsd_rule.specs.Evidence.{HasEvidence}
use Rattle.vsd_rule.specs.RowSteps.{after_rows, keeps_row, all_words, cell_seen, after_cell, after_to_dispatch, unlinked, after_to_resolve, after_to_lookup, after_count, packed_bucket, bucket_seen, after_bucket, came_out, after_put_bucket, after_empty_bucket}
use Rattle.vsd_rule.proofs.Windows.{cells_length, cell_at, cell_written, count_written, buckets_length, bucket_at, bucket_written}
use Rattle.vsd_rule.proofs.RowCells.{to_dispatch_keeps, put_keeps, take_cell_keeps, take_bucket_keeps, swap_keeps}
use Rattle.vsd_rule.proofs.RowLooks.{cell_keeps, bucket_keeps}
use Rattle.vsd_rule.proofs.RuleByClaims.{evidence_agrees, nothing_keeps}
use Rattle.vsd_rule.proofs.RuleByRows as by

module _ (k : Key) (words : List ℕ) (views : List View) (r : Rule k words views) (id : ℕ) (v : View) (at : get_elem? views id ≡ some v) where
  abbrev z : Zones
  z = zones k.sizes words

  abbrev rows : Rows k r.whole.gen r.whole.name z.epoch z.pins z.cells z.rows z.buckets (map row_seat views)
  rows = r.whole.rows

  -- ---- cells

  module _ (site : ℕ) (small : site < k.sizes.sites) where
    abbrev found : ℕ
    found = get_or words (cells_from k.sizes + site) 0

    pub cell_packing : IsCellPacking (rows.cell_word site) found
    cell_packing = subst (IsCellPacking (rows.cell_word site)) (cell_at k.sizes words site small) (rows.cell site small)

    below : site < length z.cells
    below = let long = cells_length k.sizes words r.sized in omega arith

    -- the cell is what its word packs
    cell_is : (w : CellWord) → found ≡ packed_cell w → rows.cell_word site ≡ w
    cell_is w is = packed_cell-one_to_one (rows.cell_word site) w (sym cell_packing.packed ∙ is)

    by_cell : (x : ℕ) (rows' : RowView) (act : Act) (n : ℕ) → by.RowsAre k words views r id v at (record (by.row_zones z) { cells = set z.cells site x }) rows'
        → Rule k (set words (cells_from k.sizes + site) x) (set views id (after_rows v rows' act n))
    by_cell x rows' act n kept = by.by_write k words views r id v at (cells_from k.sizes + site) x (record (by.row_zones z) { cells = set z.cells site x }) rows' act n (cell_written k.sizes words site x small) kept

    -- a row that the cell names is one of the table's
    pub cell_in_table : (row : ℕ) → rows.cell_word site ≡ Dispatch row → row < k.sizes.rows
    cell_in_table row is = (rows.cell_names site row small is).0

    pub load_cell_keeps : Rule k words (set views id (after_cell v site (rows.cell_word site)))
    load_cell_keeps = by.by_rows k words views r id v at (cell_seen v.rows site (rows.cell_word site)) (LoadCell site) (packed_cell (rows.cell_word site)) (go (rows.cell_word site) refl)
      where
        go : (w : CellWord) → rows.cell_word site ≡ w → by.RowsAre k words views r id v at (by.row_zones z) (cell_seen v.rows site w)
        go Lookup is = by.rows_still k words views r id v at
        go Resolve is = by.rows_still k words views r id v at
        go (Dispatch row) is = cell_keeps k rows id (by.d k words views r id v at) (by.at_row_seat k words views r id v at) site row small is

    -- a private row that is filled with an evidence goes into the cell
    module _ (row : ℕ) (inside : row < k.sizes.rows) where
      pub to_dispatch_won : (h : Handle) (token target : ℕ) → keeping_of row v.rows.kept ≡ Private (all_words h token target) → HasEvidence v h token target → token ≡ site_token k site → found ≡ 0
          → Rule k (set words (cells_from k.sizes + site) (packed_cell (Dispatch row))) (set views id (after_to_dispatch v site row Lookup))
      to_dispatch_won h token target mine evidence of_site is = by_cell (2 + row) (keeps_row v.rows row Elsewhere) (ToDispatch site row) 0
          (to_dispatch_keeps k rows id (by.d k words views r id v at) (by.at_row_seat k words views r id v at) row inside (all_words h token target) mine h token target refl (evidence_agrees k words views r id v at h token target evidence)
          site below small (cell_is Lookup is) (let few = r.whole.lawful.sizes.rows.rows in omega arith) of_site)

      pub to_dispatch_lost : (w : CellWord) → packed_cell w ≢ 0 → Rule k words (set views id (after_to_dispatch v site row w))
      to_dispatch_lost w other = nothing_keeps k words views r id v at (cond (nat_eq (packed_cell w) 0) (keeps_row v.rows row Elsewhere) v.rows) (ToDispatch site row) (packed_cell w)
          (ap (λ (b : Bool). cond b (keeps_row v.rows row Elsewhere) v.rows) (ne_eqb (packed_cell w) 0 other))

      -- the row comes out of the cell, and the seat keeps it
      taken : (x : ℕ) (w : CellWord) (act : Act) → found ≡ 2 + row → IsCellPacking w x → ((other : ℕ) → w ≢ Dispatch other)
          → Rule k (set words (cells_from k.sizes + site) x) (set views id (after_rows v (unlinked v.rows row (Dispatch row)) act (2 + row)))
      taken x w act is packing none = by_cell x (unlinked v.rows row (Dispatch row)) act (2 + row)
          (subst (λ (b : Bool). by.RowsAre k words views r id v at (record (by.row_zones z) { cells = set z.cells site x }) (cond b (keeps_row v.rows row Unlinked) v.rows)) (sym (eq-eqb (2 + row) (2 + row) refl))
          (take_cell_keeps k rows id (by.d k words views r id v at) (by.at_row_seat k words views r id v at) row inside site x w below small (cell_is (Dispatch row) is) packing none))

      not_taken : (w : CellWord) (act : Act) → packed_cell w ≢ 2 + row → Rule k words (set views id (after_rows v (unlinked v.rows row w) act (packed_cell w)))
      not_taken w act other = nothing_keeps k words views r id v at (unlinked v.rows row w) act (packed_cell w) (ap (λ (b : Bool). cond b (keeps_row v.rows row Unlinked) v.rows) (ne_eqb (packed_cell w) (2 + row) other))

      pub to_resolve_won : found ≡ 2 + row → Rule k (set words (cells_from k.sizes + site) 1) (set views id (after_to_resolve v site row (Dispatch row)))
      to_resolve_won is = taken 1 Resolve (ToResolve site row) is (record { in_range = tt; packed = refl }) (λ other e. absurd (cc))

      pub to_resolve_lost : (w : CellWord) → packed_cell w ≢ 2 + row → Rule k words (set views id (after_to_resolve v site row w))
      to_resolve_lost w other = not_taken w (ToResolve site row) other

      pub to_lookup_won : found ≡ 2 + row → Rule k (set words (cells_from k.sizes + site) 0) (set views id (after_to_lookup v site row (Dispatch row)))
      to_lookup_won is = taken 0 Lookup (ToLookup site row) is (record { in_range = tt; packed = refl }) (λ other e. absurd (cc))

      pub to_lookup_lost : (w : CellWord) → packed_cell w ≢ 2 + row → Rule k words (set views id (after_to_lookup v site row w))
      to_lookup_lost w other = not_taken w (ToLookup site row) other

  -- ---- counters: nothing is said of them

  pub count_keeps : (token x found : ℕ) → token < k.sizes.tokens → Rule k (set words (counts_from k.sizes + token) x) (set views id (after_count v token found))
  count_keeps token x found small = by.by_write k words views r id v at (counts_from k.sizes + token) x (record (by.row_zones z) { counts = set z.counts token x }) v.rows (Count token) found
      (count_written k.sizes words token x small) (by.rows_still k words views r id v at)

  -- ---- buckets

  module _ (bucket : ℕ) (small : bucket < k.sizes.buckets) where
    abbrev in_bucket_now : ℕ
    in_bucket_now = get_or words (buckets_from k.sizes + bucket) 0

    within : bucket < length z.buckets
    within = let long = buckets_length k.sizes words r.sized in omega arith

    there : get_or z.buckets bucket 0 ≡ in_bucket_now
    there = bucket_at k.sizes words bucket small

    by_bucket : (x : ℕ) (rows' : RowView) (act : Act) (n : ℕ) → by.RowsAre k words views r id v at (record (by.row_zones z) { buckets = set z.buckets bucket x }) rows'
        → Rule k (set words (buckets_from k.sizes + bucket) x) (set views id (after_rows v rows' act n))
    by_bucket x rows' act n kept =
        by.by_write k words views r id v at (buckets_from k.sizes + bucket) x (record (by.row_zones z) { buckets = set z.buckets bucket x }) rows' act n (bucket_written k.sizes words bucket x small) kept

    -- a bucket is empty or names one of the table's rows
    pub bucket_small : in_bucket_now ≤ k.sizes.rows
    bucket_small = go (get_or z.buckets bucket 0) refl
      where
        go : (n : ℕ) → get_or z.buckets bucket 0 ≡ n → in_bucket_now ≤ k.sizes.rows
        go zero is = let same = there in omega arith
        go (suc row) is = let inside = (rows.bucket_names bucket row small (is ∙ omega arith)).0 in let same = there in omega arith

    pub load_bucket_keeps : (o : Option ℕ) → in_bucket_now ≡ packed_bucket o → Rule k words (set views id (after_bucket v bucket o))
    load_bucket_keeps None is = by.by_rows k words views r id v at v.rows (LoadBucket bucket) 0 (by.rows_still k words views r id v at)
    load_bucket_keeps (Some row) is = by.by_rows k words views r id v at (bucket_seen v.rows (Some row)) (LoadBucket bucket) (row + 1)
        (bucket_keeps k rows id (by.d k words views r id v at) (by.at_row_seat k words views r id v at) bucket row small (there ∙ is))

    pub put_bucket_keeps : (row : ℕ) → row < k.sizes.rows → (h : Handle) (token target : ℕ) → keeping_of row v.rows.kept ≡ Private (all_words h token target) → HasEvidence v h token target
        → (o : Option ℕ) → in_bucket_now ≡ packed_bucket o → Rule k (set words (buckets_from k.sizes + bucket) (row + 1)) (set views id (after_put_bucket v bucket row o))
    put_bucket_keeps row inside h token target mine evidence None is = by_bucket (row + 1) (keeps_row v.rows row Elsewhere) (PutBucket bucket row) 0
        (put_keeps k rows id (by.d k words views r id v at) (by.at_row_seat k words views r id v at) row inside (all_words h token target) mine h token target refl (evidence_agrees k words views r id v at h token target evidence) bucket within small (there ∙ is))
    put_bucket_keeps row inside h token target mine evidence (Some out) is = by_bucket (row + 1) (came_out (keeps_row v.rows row Elsewhere) (Some out)) (PutBucket bucket row) (out + 1)
        (swap_keeps k rows id (by.d k words views r id v at) (by.at_row_seat k words views r id v at) row inside (all_words h token target) mine h token target refl (evidence_agrees k words views r id v at h token target evidence) bucket out within small (there ∙ is))

    pub empty_bucket_keeps : (o : Option ℕ) → in_bucket_now ≡ packed_bucket o → Rule k (set words (buckets_from k.sizes + bucket) 0) (set views id (after_empty_bucket v bucket o))
    empty_bucket_keeps None is = by_bucket 0 v.rows (EmptyBucket bucket) 0
        (subst (λ (b : List ℕ). by.RowsAre k words views r id v at (record (by.row_zones z) { buckets = b }) v.rows) (sym (set-get_or z.buckets bucket 0) ∙ ap (set z.buckets bucket) (there ∙ is)) (by.rows_still k words views r id v at))
    empty_bucket_keeps (Some out) is = by_bucket 0 (came_out v.rows (Some out)) (EmptyBucket bucket) (out + 1)
        (take_bucket_keeps k rows id (by.d k words views r id v at) (by.at_row_seat k words views r id v at) out (rows.bucket_names bucket out small (there ∙ is)).0 bucket within small (there ∙ is))
