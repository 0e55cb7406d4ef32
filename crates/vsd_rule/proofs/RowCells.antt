-- Steps that name a row in a cell or a bucket, or take it out again.
use Rattle.std.proofs.Common.{◌≡◌, ◌≢◌, ℕ, ◌+◌, ◌<◌, List, ◌∷◌, length, get_or, set, ap, sym, refl, ◌∙◌, subst, arith, length-set, get_or-set_same, get_or-set_other}
use Rattle.std.proofs.lemmas.List.{set-set}
use mathlib.Core.Logic.{dite}
use mathlib.Core.Option.{some}
use native.Mathlib.Decide.{ℕ_discrete}
use lib.ListN.{get_elem?}
use Rattle.atomic_table.proofs.Lists.{set_here}
use Rattle.vsd_words.specs.declared.handle.Handle.{Handle}
use Rattle.vsd_words.specs.declared.cell_word.CellWord.{CellWord}
use Rattle.vsd_words.specs.declared.cell_word.CellWord.TheVariants.{Lookup, Dispatch}
use Rattle.vsd_words.specs.CellWord.{IsCellPacking}
use Rattle.vsd_rule.specs.declared.key.Key.{Key}
use Rattle.vsd_rule.specs.declared.row_view.KnownWords.{KnownWords}
use Rattle.vsd_rule.specs.declared.row_view.Keeping.{Keeping}
use Rattle.vsd_rule.specs.declared.row_view.Keeping.TheVariants.{Elsewhere, Private, Unlinked, Retired}
use Rattle.vsd_rule.specs.Lists.{site_token}
use Rattle.vsd_rule.specs.Rows.{RowSeat, Rows, Row, RowState, Content, free, in_cell, in_bucket, kept, TrueWords, IsRetired, WasPublished, Agrees, keeping_of}
use Rattle.vsd_rule.specs.RowSteps.{keeps_row, all_words}
use Rattle.vsd_rule.proofs.Points.{put, put_here, put_else}
use Rattle.vsd_rule.proofs.RowFrames.{CellPart, BucketPart, cells_of, buckets_of, limbo_state, rows_after}
use Rattle.vsd_rule.proofs.RowMoves.{Moves, keeping_here, keeping_else, there_below, untouched_same, waits_still, state', content', rows_moved, keeper_moved, others_moved, mine_moved, cells_still, buckets_still}
use Rattle.vsd_rule.proofs.RowPins.{sweeps_still, seen_before, rehold_keeps}
use Rattle.vsd_rule.proofs.RowClaims.{state_private, private_moves}

module _ (k : Key) {gen : ℕ → ℕ} {name : ℕ → ℕ → ℕ} {epoch : ℕ} {pins cells words buckets : List ℕ} {seats : List RowSeat} (r : Rows k gen name epoch pins cells words buckets seats) (id : ℕ) where
  -- ---- one cell or bucket changes, which named at most this row and names at most it

  module _ (row : ℕ) (q : RowState) (c : Content) (m : Moves k r id row q c) where
    pub cell_changed : (site x : ℕ) (w : CellWord) → site < length cells → site < k.sizes.sites → IsCellPacking w x
        → ((other : ℕ) → w ≡ Dispatch other → (other ≡ row) × (q ≡ in_cell site)) → ((other : ℕ) → r.cell_word site ≡ Dispatch other → other ≡ row)
        → ((other : ℕ) → q ≡ in_cell other → (other ≡ site) × (w ≡ Dispatch row) × (c.token ≡ site_token k site)) → ((other : ℕ) → r.state row ≡ in_cell other → other ≡ site)
        → CellPart k (state' k r id row q c m) (content' k r id row q c m) (put r.cell_word site w) (set cells site x)
    cell_changed site x w below small packing names_new names_old back was = let p = cells_of k r in record {
      packing = λ other lawful. dite (ℕ_discrete other site)
          (λ e. subst (λ (s : ℕ). IsCellPacking (put r.cell_word site w s) (get_or (set cells site x) s 0)) (sym e)
          (subst (λ (v : CellWord). IsCellPacking v (get_or (set cells site x) site 0)) (sym (put_here r.cell_word site w))
          (subst (IsCellPacking w) (sym (get_or-set_same cells site x 0 below)) packing)))
          (λ ne. subst (λ (v : CellWord). IsCellPacking v (get_or (set cells site x) other 0)) (sym (put_else r.cell_word site w other ne))
          (subst (IsCellPacking (r.cell_word other)) (sym (get_or-set_other cells site other x 0 ne)) (p.packing other lawful)));
      names = λ other named lawful is. dite (ℕ_discrete other site)
          (λ e. let t = names_new named (sym (put_here r.cell_word site w) ∙ (ap (put r.cell_word site w) (sym e) ∙ is)) in
          (subst (λ (n : ℕ). n < k.sizes.rows) (sym t.0) m.small, ap (put r.state row q) t.0 ∙ (put_here r.state row q ∙ (t.1 ∙ ap in_cell (sym e)))))
          (λ ne. let t = p.names other named lawful (sym (put_else r.cell_word site w other ne) ∙ is) in dite (ℕ_discrete named row)
          (λ same. absurd (ne (was other (ap r.state (sym same) ∙ t.1))))
          (λ apart. (t.0, put_else r.state row q named apart ∙ t.1)));
      named = λ other named lawful is. dite (ℕ_discrete named row)
          (λ same.
          let t = back other (sym (put_here r.state row q) ∙ (ap (put r.state row q) (sym same) ∙ is)) in (
            subst (λ (n : ℕ). n < k.sizes.sites) (sym t.0) small,
            ap (put r.cell_word site w) t.0 ∙ (put_here r.cell_word site w ∙ (t.1 ∙ ap Dispatch (sym same))),
            ap (λ (n : ℕ). (put r.content row c n).token) same ∙ (ap (λ (y : Content). y.token) (put_here r.content row c) ∙ (t.2 ∙ ap (site_token k) (sym t.0))),
          ))
          (λ apart.
          let t = p.named other named lawful (sym (put_else r.state row q named apart) ∙ is) in
          let ne : other ≢ site = λ e. apart (names_old named (ap r.cell_word (sym e) ∙ t.1)) in
          (t.0, put_else r.cell_word site w other ne ∙ t.1, ap (λ (y : Content). y.token) (put_else r.content row c named apart) ∙ t.2));
    }

    pub bucket_changed : (bucket x : ℕ) → bucket < length buckets → bucket < k.sizes.buckets
        → ((other : ℕ) → x ≡ other + 1 → (other ≡ row) × (q ≡ in_bucket bucket)) → ((other : ℕ) → get_or buckets bucket 0 ≡ other + 1 → other ≡ row)
        → ((other : ℕ) → q ≡ in_bucket other → (other ≡ bucket) × (x ≡ row + 1)) → ((other : ℕ) → r.state row ≡ in_bucket other → other ≡ bucket)
        → BucketPart k (state' k r id row q c m) (set buckets bucket x)
    bucket_changed bucket x below small names_new names_old back was = let p = buckets_of k r in record {
      names = λ other named lawful is. dite (ℕ_discrete other bucket)
          (λ e. let t = names_new named (sym (get_or-set_same buckets bucket x 0 below) ∙ (ap (λ (b : ℕ). get_or (set buckets bucket x) b 0) (sym e) ∙ is)) in
          (subst (λ (n : ℕ). n < k.sizes.rows) (sym t.0) m.small, ap (put r.state row q) t.0 ∙ (put_here r.state row q ∙ (t.1 ∙ ap in_bucket (sym e)))))
          (λ ne. let t = p.names other named lawful (sym (get_or-set_other buckets bucket other x 0 ne) ∙ is) in dite (ℕ_discrete named row)
          (λ same. absurd (ne (was other (ap r.state (sym same) ∙ t.1))))
          (λ apart. (t.0, put_else r.state row q named apart ∙ t.1)));
      named = λ other named lawful is. dite (ℕ_discrete named row)
          (λ same.
          let t = back other (sym (put_here r.state row q) ∙ (ap (put r.state row q) (sym same) ∙ is)) in (
            subst (λ (n : ℕ). n < k.sizes.buckets) (sym t.0) small,
            ap (λ (b : ℕ). get_or (set buckets bucket x) b 0) t.0 ∙ (get_or-set_same buckets bucket x 0 below ∙ (t.1 ∙ ap (λ (n : ℕ). n + 1) (sym same))),
          ))
          (λ apart.
          let t = p.named other named lawful (sym (put_else r.state row q named apart) ∙ is) in
          let ne : other ≢ bucket = λ e. apart (names_old named (ap (λ (b : ℕ). get_or buckets b 0) (sym e) ∙ t.1)) in
          (t.0, get_or-set_other buckets bucket other x 0 ne ∙ t.1));
    }

  module _ (d : RowSeat) (at : get_elem? seats id ≡ some d) (row : ℕ) (small : row < k.sizes.rows) where
    abbrev old : Row k gen name r.state r.content words row
    old = r.row row small

    -- a row that is named from now on, or that was named up to now, has an agreed target
    published : (q : RowState) → q ≢ free → r.state row ≢ free → Agrees k gen name (r.content row).handle (r.content row).token (r.content row).target
        → Row k gen name (λ _. q) (λ _. r.content row) words row
    published q not was agrees = record {
      unclaimed = λ e. absurd (not e);
      claimed = λ _. old.claimed was;
      handle = old.handle;
      token = old.token;
      target = old.target;
      handle_row = old.handle_row;
      old = old.old;
      token_fits = old.token_fits;
      target_fits = old.target_fits;
      agrees = λ _. agrees;
    }

    -- the queue of limbo does not see a row that does not stand in it
    waits : (h : Keeping) → ((seat since : ℕ) → r.state row ≢ kept seat (Retired since)) → (i : ℕ) (x : _) → get_elem? d.rows.limbo i ≡ some x → IsRetired k epoch (record { row = row; keeping = h } ∷ d.rows.kept) x
    waits h none i x is = waits_still k d.rows.kept row h x (omega arith) (λ same. none id x.epoch (ap r.state (sym same) ∙ limbo_state k r id i d x at is)) ((r.each id d at).limbo i x is)

    abbrev now : Keeping → RowSeat
    now h = record { who = d.who; rows = keeps_row d.rows row h }

    -- ---- into a cell, or into an empty bucket, with what was stored since the claim

    module _ (f : KnownWords) (mine : keeping_of row d.rows.kept ≡ Private f) (h : Handle) (token target : ℕ) (full : f ≡ all_words h token target) (agreed : Agrees k gen name h token target) where
      abbrev private_still : r.state row ≡ kept id (Private f)
      private_still = state_private k r id d at row f small mine

      stored : TrueWords (all_words h token target) (r.content row)
      stored = subst (λ (x : KnownWords). TrueWords x (r.content row)) full ((r.each id d at).stored row f small mine)

      agrees : Agrees k gen name (r.content row).handle (r.content row).token (r.content row).target
      agrees = let s = stored in subst (λ (x : Content). Agrees k gen name x.handle x.token x.target) (λ c. record { handle = s.handle c; token = s.token c; target = s.target c }) agreed

      pub to_dispatch_keeps : (site : ℕ) → site < length cells → site < k.sizes.sites → r.cell_word site ≡ Lookup → row < 1024 → token ≡ site_token k site
          → Rows k gen name epoch pins (set cells site (2 + row)) words buckets (set seats id (now Elsewhere))
      to_dispatch_keeps site below lawful lookup few of_site =
          let q : RowState = in_cell site in
          let c : Content = r.content row in
          let is : r.state row ≡ kept id (Private f) = private_still in
          let m : Moves k r id row q c = private_moves k r id d at row small f mine q c (λ seat keeping apart e. absurd (cc)) in
          let t = r.each id d at in
          rows_after k r id d (now Elsewhere) at (record {
            small = r.epoch_small;
            rows = rows_moved k r id row q c m words (λ other _ _. untouched_same words other) (published q (λ e. absurd (cc)) (λ e. absurd (cc)) agrees);
            keeper = keeper_moved k r id row q c m (there_below seats id d at);
            in_cells = cell_changed row q c m site (2 + row) (Dispatch row) below lawful (record { in_range = few; packed = refl })
                (λ other e. (let same : row ≡ other = cc in sym same, refl)) (λ other e. absurd (cc)) (λ other e. (let same : site ≡ other = cc in sym same, refl, (let t : token ≡ (r.content row).token = stored.token in sym t ∙ of_site))) (λ other e. absurd (cc));
            in_buckets = buckets_still k r id row q c m (λ bucket e. absurd (cc)) (λ bucket e. absurd (cc));
            others = others_moved k r id row q c m;
            mine = mine_moved k r id row q c m d at Elsewhere d.rows.limbo d.rows.passed (λ keeping e. absurd (cc)) (λ g e. absurd (cc)) (waits Elsewhere (λ seat since e. absurd (cc))) t.once t.room t.passed;
            sweeps = sweeps_still k r id d at (now Elsewhere) refl refl refl (seen_before k r id d at);
          })

      pub put_keeps : (bucket : ℕ) → bucket < length buckets → bucket < k.sizes.buckets → get_or buckets bucket 0 ≡ 0
          → Rows k gen name epoch pins cells words (set buckets bucket (row + 1)) (set seats id (now Elsewhere))
      put_keeps bucket below lawful empty =
          let q : RowState = in_bucket bucket in
          let c : Content = r.content row in
          let is : r.state row ≡ kept id (Private f) = private_still in
          let m : Moves k r id row q c = private_moves k r id d at row small f mine q c (λ seat keeping apart e. absurd (cc)) in
          let t = r.each id d at in
          rows_after k r id d (now Elsewhere) at (record {
            small = r.epoch_small;
            rows = rows_moved k r id row q c m words (λ other _ _. untouched_same words other) (published q (λ e. absurd (cc)) (λ e. absurd (cc)) agrees);
            keeper = keeper_moved k r id row q c m (there_below seats id d at);
            in_cells = cells_still k r id row q c m (λ site e. absurd (cc)) (λ site e. absurd (cc));
            in_buckets = bucket_changed row q c m bucket (row + 1) below lawful
                (λ other e. (omega arith, refl)) (λ other e. absurd (omega arith)) (λ other e. (let same : bucket ≡ other = cc in sym same, refl)) (λ other e. absurd (cc));
            others = others_moved k r id row q c m;
            mine = mine_moved k r id row q c m d at Elsewhere d.rows.limbo d.rows.passed (λ keeping e. absurd (cc)) (λ g e. absurd (cc)) (waits Elsewhere (λ seat since e. absurd (cc))) t.once t.room t.passed;
            sweeps = sweeps_still k r id d at (now Elsewhere) refl refl refl (seen_before k r id d at);
          })

    -- ---- out of a cell or a bucket: the row is unlinked, and who protects it protects it still

    take_moves : (p : RowState) → r.state row ≡ p → ((seat : ℕ) (keeping : Keeping) → p ≢ kept seat keeping) → Moves k r id row (kept id Unlinked) (r.content row)
    take_moves p is not = record {
      small = small;
      from = λ seat keeping apart e. not seat keeping (sym is ∙ e);
      to = λ seat keeping apart e. apart (let same : id ≡ seat = cc in sym same);
      owed = λ seat e there pinned s. (tt, refl, (λ other since (clash : kept id Unlinked ≡ kept other (Retired since)). absurd (cc)));
    }

    pub take_cell_keeps : (site x : ℕ) (w : CellWord) → site < length cells → site < k.sizes.sites → r.cell_word site ≡ Dispatch row → IsCellPacking w x → ((other : ℕ) → w ≢ Dispatch other)
        → Rows k gen name epoch pins (set cells site x) words buckets (set seats id (now Unlinked))
    take_cell_keeps site x w below lawful shown packing none =
        let q : RowState = kept id Unlinked in
        let c : Content = r.content row in
        let is : r.state row ≡ in_cell site = (r.cell_names site row lawful shown).1 in
        let m : Moves k r id row q c = take_moves (in_cell site) is (λ seat keeping e. absurd (cc)) in
        let t = r.each id d at in
        rows_after k r id d (now Unlinked) at (record {
          small = r.epoch_small;
          rows = rows_moved k r id row q c m words (λ other _ _. untouched_same words other) (published q (λ e. absurd (cc)) (λ e. absurd (cc)) (old.agrees (subst WasPublished (sym is) tt)));
          keeper = keeper_moved k r id row q c m (there_below seats id d at);
          in_cells = cell_changed row q c m site x w below lawful packing
              (λ other e. absurd (none other e)) (λ other e. let same : row ≡ other = cc in sym same) (λ other e. absurd (cc)) (λ other e. let same : site ≡ other = cc in sym same);
          in_buckets = buckets_still k r id row q c m (λ bucket e. absurd (cc)) (λ bucket e. absurd (cc));
          others = others_moved k r id row q c m;
          mine = mine_moved k r id row q c m d at Unlinked d.rows.limbo d.rows.passed refl (λ g e. absurd (cc)) (waits Unlinked (λ seat since e. absurd (cc))) t.once t.room t.passed;
          sweeps = sweeps_still k r id d at (now Unlinked) refl refl refl (seen_before k r id d at);
        })

    pub take_bucket_keeps : (bucket : ℕ) → bucket < length buckets → bucket < k.sizes.buckets → get_or buckets bucket 0 ≡ row + 1
        → Rows k gen name epoch pins cells words (set buckets bucket 0) (set seats id (now Unlinked))
    take_bucket_keeps bucket below lawful there =
        let q : RowState = kept id Unlinked in
        let c : Content = r.content row in
        let is : r.state row ≡ in_bucket bucket = (r.bucket_names bucket row lawful there).1 in
        let m : Moves k r id row q c = take_moves (in_bucket bucket) is (λ seat keeping e. absurd (cc)) in
        let t = r.each id d at in
        rows_after k r id d (now Unlinked) at (record {
          small = r.epoch_small;
          rows = rows_moved k r id row q c m words (λ other _ _. untouched_same words other) (published q (λ e. absurd (cc)) (λ e. absurd (cc)) (old.agrees (subst WasPublished (sym is) tt)));
          keeper = keeper_moved k r id row q c m (there_below seats id d at);
          in_cells = cells_still k r id row q c m (λ site e. absurd (cc)) (λ site e. absurd (cc));
          in_buckets = bucket_changed row q c m bucket 0 below lawful
              (λ other e. absurd (omega arith)) (λ other e. omega arith) (λ other e. absurd (cc)) (λ other e. let same : bucket ≡ other = cc in sym same);
          others = others_moved k r id row q c m;
          mine = mine_moved k r id row q c m d at Unlinked d.rows.limbo d.rows.passed refl (λ g e. absurd (cc)) (waits Unlinked (λ seat since e. absurd (cc))) t.once t.room t.passed;
          sweeps = sweeps_still k r id d at (now Unlinked) refl refl refl (seen_before k r id d at);
        })

-- ---- a swap on a full bucket: the old row out, and then the new one in

module _ (k : Key) {gen : ℕ → ℕ} {name : ℕ → ℕ → ℕ} {epoch : ℕ} {pins cells words buckets : List ℕ} {seats : List RowSeat} (r : Rows k gen name epoch pins cells words buckets seats) (id : ℕ) where
  pub swap_keeps : (d : RowSeat) (at : get_elem? seats id ≡ some d) (row : ℕ) (small : row < k.sizes.rows) (f : KnownWords) (mine : keeping_of row d.rows.kept ≡ Private f)
      (h : Handle) (token target : ℕ) → f ≡ all_words h token target → Agrees k gen name h token target
      → (bucket out : ℕ) → bucket < length buckets → bucket < k.sizes.buckets → get_or buckets bucket 0 ≡ out + 1
      → Rows k gen name epoch pins cells words (set buckets bucket (row + 1))
      (set seats id (record { who = d.who; rows = record d.rows { kept = record { row = out; keeping = Unlinked } ∷ record { row = row; keeping = Elsewhere } ∷ d.rows.kept } }))
  swap_keeps d at row small f mine h token target full agreed bucket out below lawful there =
      let named = r.bucket_names bucket out lawful there in
      let apart : row ≢ out = λ e. let a : r.state row ≡ kept id (Private f) = state_private k r id d at row f small mine in let b : r.state row ≡ in_bucket bucket = ap r.state e ∙ named.1 in absurd (cc) in
      let d1 : RowSeat = record { who = d.who; rows = record d.rows { kept = record { row = out; keeping = Unlinked } ∷ d.rows.kept } } in
      let d2 : RowSeat = record { who = d.who; rows = record d.rows { kept = record { row = row; keeping = Elsewhere } ∷ record { row = out; keeping = Unlinked } ∷ d.rows.kept } } in
      let d3 : RowSeat = record { who = d.who; rows = record d.rows { kept = record { row = out; keeping = Unlinked } ∷ record { row = row; keeping = Elsewhere } ∷ d.rows.kept } } in
      let r1 : Rows k gen name epoch pins cells words (set buckets bucket 0) (set seats id d1) = take_bucket_keeps k r id d at out named.0 bucket below lawful there in
      let at1 : get_elem? (set seats id d1) id ≡ some d1 = set_here seats id d1 (there_below seats id d at) in
      let r2 : Rows k gen name epoch pins cells words (set (set buckets bucket 0) bucket (row + 1)) (set (set seats id d1) id d2) =
      put_keeps k r1 id d1 at1 row small f (keeping_else out row Unlinked d.rows.kept apart ∙ mine) h token target full agreed bucket
      (subst (λ (n : ℕ). bucket < n) (sym (length-set buckets bucket 0)) below) lawful (get_or-set_same buckets bucket 0 0 below) in
      let r2' : Rows k gen name epoch pins cells words (set buckets bucket (row + 1)) (set seats id d2) =
      subst (λ (q : List ℕ × List RowSeat). Rows k gen name epoch pins cells words q.0 q.1) (λ c. (set-set buckets bucket 0 (row + 1) c, set-set seats id d1 d2 c)) r2 in
      let at2 : get_elem? (set seats id d2) id ≡ some d2 = set_here seats id d2 (there_below seats id d at) in
      subst (Rows k gen name epoch pins cells words (set buckets bucket (row + 1))) (set-set seats id d2 d3)
      (rehold_keeps k r2' id d2 at2 d3.rows.kept (λ other. dite (ℕ_discrete other out)
      (λ e. ap (λ (z : ℕ). keeping_of z d3.rows.kept) e ∙ (keeping_here out Unlinked (record { row = row; keeping = Elsewhere } ∷ d.rows.kept)
      ∙ sym (ap (λ (z : ℕ). keeping_of z d2.rows.kept) e ∙ (keeping_else row out Elsewhere d1.rows.kept (λ e'. apart (sym e')) ∙ keeping_here out Unlinked d.rows.kept))))
      (λ ne. keeping_else out other Unlinked (record { row = row; keeping = Elsewhere } ∷ d.rows.kept) ne ∙ dite (ℕ_discrete other row)
      (λ e. ap (λ (z : ℕ). keeping_of z (record { row = row; keeping = Elsewhere } ∷ d.rows.kept)) e ∙ (keeping_here row Elsewhere d.rows.kept ∙ sym (ap (λ (z : ℕ). keeping_of z d2.rows.kept) e ∙ keeping_here row Elsewhere d1.rows.kept)))
      (λ ne'. keeping_else row other Elsewhere d.rows.kept ne' ∙ sym (keeping_else row other Elsewhere d1.rows.kept ne' ∙ keeping_else out other Unlinked d.rows.kept ne)))))
