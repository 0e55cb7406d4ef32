-- Steps on a row that no cell, bucket or queue names: its claim, the stores of its words, and its return.
use Rattle.std.proofs.Common.{◌≡◌, ◌≢◌, ℕ, ◌+◌, ◌*◌, ◌<◌, ◌≤◌, ◌^◌, List, ◌∷◌, Some, length, get_or, set, ap, sym, refl, ◌∙◌, subst, arith, get_or-set_same, get_or-set_other}
use mathlib.Core.Option.{some}
use lib.ListN.{get_elem?}
use Rattle.vsd_words.specs.declared.handle.Handle.{Handle}
use Rattle.vsd_words.specs.Handle.{IsHandlePacking}
use Rattle.vsd_rule.specs.declared.key.Key.{Key}
use Rattle.vsd_rule.specs.declared.row_view.KnownWords.{KnownWords}
use Rattle.vsd_rule.specs.declared.row_view.Keeping.{Keeping}
use Rattle.vsd_rule.specs.declared.row_view.Keeping.TheVariants.{Elsewhere, Private, Retired}
use Rattle.vsd_rule.specs.Handles.{WasBound}
use Rattle.vsd_rule.specs.Rows.{RowSeat, Rows, Row, RowState, Content, free, in_cell, in_bucket, kept, KeepsAsTold, TrueWords, WasPublished, keeping_of}
use Rattle.vsd_rule.specs.RowSteps.{nothing_known}
use Rattle.vsd_rule.proofs.RowFrames.{SeesRow, protects_at, limbo_state, rows_after}
use Rattle.vsd_rule.proofs.RowMoves.{Untouched, Moves, there_below, waits_still, rows_moved, keeper_moved, others_moved, mine_moved, moved_view, cells_still, buckets_still}
use Rattle.vsd_rule.proofs.RowPins.{sweeps_still, seen_before}

-- a store in one of a row's words leaves the other rows alone
pub untouched_by : (words : List ℕ) (row i x : ℕ) → 4 * row ≤ i → i < 4 * row + 4 → (other : ℕ) → other ≢ row → Untouched words (set words i x) other
untouched_by words row i x from to other apart = record {
  claim = get_or-set_other words i (4 * other) x 0 (λ e. apart (omega arith));
  handle = get_or-set_other words i (4 * other + 1) x 0 (λ e. apart (omega arith));
  token = get_or-set_other words i (4 * other + 2) x 0 (λ e. apart (omega arith));
  target = get_or-set_other words i (4 * other + 3) x 0 (λ e. apart (omega arith));
}

module _ (k : Key) {gen : ℕ → ℕ} {name : ℕ → ℕ → ℕ} {epoch : ℕ} {pins cells words buckets : List ℕ} {seats : List RowSeat} (r : Rows k gen name epoch pins cells words buckets seats) where
  -- a row whose claim word is 0 is free
  pub free_of : (row : ℕ) → row < k.sizes.rows → get_or words (4 * row) 0 ≡ 0 → r.state row ≡ free
  free_of row small zero_there = go (r.state row) refl
    where
      clash : r.state row ≢ free → r.state row ≡ free
      clash not = absurd (let one = (r.row row small).claimed not in omega arith)

      go : (p : RowState) → r.state row ≡ p → r.state row ≡ free
      go free is = is
      go (in_cell site) is = clash (λ e. absurd (cc))
      go (in_bucket bucket) is = clash (λ e. absurd (cc))
      go (kept seat keeping) is = clash (λ e. absurd (cc))

  -- a row that was not named since its claim is protected by nobody
  pub unseen : (row : ℕ) → (WasPublished (r.state row) → ⊥) → (seat : ℕ) (e : RowSeat) → get_elem? seats seat ≡ some e → 0 < e.rows.pinned → SeesRow e.rows.protected row → ⊥
  unseen row hidden seat e there pinned s =
      hidden (subst WasPublished (ap r.state s.same) (protects_at k r.state r.content e.rows.pinned e.rows.protected ((r.each seat e there).protects pinned) s.index s.entry s.there).published)

  module _ (id : ℕ) (d : RowSeat) (at : get_elem? seats id ≡ some d) where
    -- the seat has the row as its view tells
    pub state_private : (row : ℕ) (f : KnownWords) → row < k.sizes.rows → keeping_of row d.rows.kept ≡ Private f → r.state row ≡ kept id (Private f)
    state_private row f small is = subst (KeepsAsTold id (r.state row)) is ((r.each id d at).keepings row small)

    -- a move that no cell, bucket or queue of limbo sees
    pub record Quiet (row : ℕ) (q : RowState) : Type 0 where
      pub cell_from : (site : ℕ) → r.state row ≢ in_cell site
      pub cell_to : (site : ℕ) → q ≢ in_cell site
      pub bucket_from : (bucket : ℕ) → r.state row ≢ in_bucket bucket
      pub bucket_to : (bucket : ℕ) → q ≢ in_bucket bucket
      pub waiting : (seat since : ℕ) → r.state row ≢ kept seat (Retired since)

    pub quiet_keeps : (row : ℕ) (q : RowState) (c : Content) (h : Keeping) (words' : List ℕ) (m : Moves k r id row q c) → Quiet row q → ((other : ℕ) → other ≢ row → Untouched words words' other)
        → Row k gen name (λ _. q) (λ _. c) words' row → KeepsAsTold id q h → ((f : KnownWords) → h ≡ Private f → TrueWords f c)
        → Rows k gen name epoch pins cells words' buckets (set seats id (moved_view k r id row q c m d at h d.rows.limbo d.rows.passed))
    quiet_keeps row q c h words' m quiet untouched here has fills = let t = r.each id d at in rows_after k r id d (moved_view k r id row q c m d at h d.rows.limbo d.rows.passed) at (record {
      small = r.epoch_small;
      rows = rows_moved k r id row q c m words' (λ other ne _. untouched other ne) here;
      keeper = keeper_moved k r id row q c m (there_below seats id d at);
      in_cells = cells_still k r id row q c m quiet.cell_from quiet.cell_to;
      in_buckets = buckets_still k r id row q c m quiet.bucket_from quiet.bucket_to;
      others = others_moved k r id row q c m;
      mine = mine_moved k r id row q c m d at h d.rows.limbo d.rows.passed has fills
          (λ i x is. waits_still k d.rows.kept row h x (omega arith) (λ same. quiet.waiting id x.epoch (ap r.state (sym same) ∙ limbo_state k r id i d x at is)) (t.limbo i x is))
          t.once t.room t.passed;
      sweeps = sweeps_still k r id d at (moved_view k r id row q c m d at h d.rows.limbo d.rows.passed) refl refl refl (seen_before k r id d at);
    })

    -- a claim word is stored, and the other words stay
    pub reclaimed : (row : ℕ) (q : RowState) (x : ℕ) → row < k.sizes.rows → length words ≡ 4 * k.sizes.rows → (q ≡ free → x ≡ 0) → (q ≢ free → x ≡ 1) → (WasPublished q → WasPublished (r.state row))
        → Row k gen name (λ _. q) (λ _. r.content row) (set words (4 * row) x) row
    reclaimed row q x small long unclaimed claimed shown =
        let o = r.row row small in
        let now : get_or (set words (4 * row) x) (4 * row) 0 ≡ x = get_or-set_same words (4 * row) x 0 (omega arith) in
        record {
          unclaimed = λ is. now ∙ unclaimed is;
          claimed = λ not. now ∙ claimed not;
          handle = subst (λ (n : ℕ). IsHandlePacking (r.content row).handle n) (sym (get_or-set_other words (4 * row) (4 * row + 1) x 0 (λ e. omega arith))) o.handle;
          token = get_or-set_other words (4 * row) (4 * row + 2) x 0 (λ e. omega arith) ∙ o.token;
          target = get_or-set_other words (4 * row) (4 * row + 3) x 0 (λ e. omega arith) ∙ o.target;
          handle_row = o.handle_row;
          old = o.old;
          token_fits = o.token_fits;
          target_fits = o.target_fits;
          agrees = λ is. o.agrees (shown is);
        }

    -- ---- a claim, whose exchange found the row free

    module _ (row : ℕ) (small : row < k.sizes.rows) where
      claim_moves : r.state row ≡ free → Moves k r id row (kept id (Private nothing_known)) (r.content row)
      claim_moves is = record {
        small = small;
        from = λ seat keeping apart e. absurd (cc);
        to = λ seat keeping apart e. apart (let same : id ≡ seat = cc in sym same);
        owed = λ seat e there pinned s. absurd (unseen row (subst (λ (p : RowState). WasPublished p → ⊥) (sym is) (λ (x : ⊥). x)) seat e there pinned s);
      }

      pub claim_keeps : length words ≡ 4 * k.sizes.rows → get_or words (4 * row) 0 ≡ 0
          → Rows k gen name epoch pins cells (set words (4 * row) 1) buckets (set seats id (record { who = d.who; rows = record d.rows { kept = record { row = row; keeping = Private nothing_known } ∷ d.rows.kept } }))
      claim_keeps long found = let is = free_of row small found in quiet_keeps row (kept id (Private nothing_known)) (r.content row) (Private nothing_known) (set words (4 * row) 1) (claim_moves is) (record {
        cell_from = λ site e. absurd (cc);
        cell_to = λ site e. absurd (cc);
        bucket_from = λ bucket e. absurd (cc);
        bucket_to = λ bucket e. absurd (cc);
        waiting = λ seat since e. absurd (cc);
      }) (untouched_by words row (4 * row) 1 (omega arith) (omega arith)) (reclaimed row (kept id (Private nothing_known)) 1 small long (λ e. absurd (cc)) (λ _. refl) (λ (x : ⊥). absurd x)) refl
          (λ f e. subst (λ (y : KnownWords). TrueWords y (r.content row)) (let same : nothing_known ≡ f = cc in same) (record { handle = tt; token = tt; target = tt }))

      -- ---- a row that was not named since its claim

      module _ (f : KnownWords) (mine : keeping_of row d.rows.kept ≡ Private f) where
        abbrev pub is : r.state row ≡ kept id (Private f)
        is = state_private row f small mine

        hidden : WasPublished (r.state row) → ⊥
        hidden = subst (λ (p : RowState). WasPublished p → ⊥) (sym is) (λ (x : ⊥). x)

        pub private_moves : (q : RowState) (c : Content) → ((seat : ℕ) (keeping : Keeping) → seat ≢ id → q ≢ kept seat keeping) → Moves k r id row q c
        private_moves q c to = record {
          small = small;
          from = λ seat keeping apart e. apart (let same : id ≡ seat = let w : r.state row ≡ kept id (Private f) = is in cc in sym same);
          to = to;
          owed = λ seat e there pinned s. absurd (unseen row hidden seat e there pinned s);
        }

        private_quiet : (q : RowState) → ((site : ℕ) → q ≢ in_cell site) → ((bucket : ℕ) → q ≢ in_bucket bucket) → Quiet row q
        private_quiet q cell_to bucket_to = let w : r.state row ≡ kept id (Private f) = is in record {
          cell_from = λ site e. absurd (cc);
          cell_to = cell_to;
          bucket_from = λ bucket e. absurd (cc);
          bucket_to = bucket_to;
          waiting = λ seat since e. absurd (cc);
        }

        module _ (long : length words ≡ 4 * k.sizes.rows) where
          -- a store of free
          pub free_keeps : Rows k gen name epoch pins cells (set words (4 * row) 0) buckets (set seats id (record { who = d.who; rows = record d.rows { kept = record { row = row; keeping = Elsewhere } ∷ d.rows.kept } }))
          free_keeps = quiet_keeps row free (r.content row) Elsewhere (set words (4 * row) 0) (private_moves free (r.content row) (λ seat keeping apart e. absurd (cc)))
              (private_quiet free (λ site e. absurd (cc)) (λ bucket e. absurd (cc))) (untouched_by words row (4 * row) 0 (omega arith) (omega arith))
              (reclaimed row free 0 small long (λ _. refl) (λ not. absurd (not refl)) (λ (x : ⊥). absurd x)) (λ keeping e. absurd (cc)) (λ g e. absurd (cc))

          -- a store of one of the three words
          filled_keeps : (f' : KnownWords) (c : Content) (words' : List ℕ) → ((other : ℕ) → other ≢ row → Untouched words words' other) → Row k gen name (λ _. kept id (Private f')) (λ _. c) words' row → TrueWords f' c
              → Rows k gen name epoch pins cells words' buckets (set seats id (record { who = d.who; rows = record d.rows { kept = record { row = row; keeping = Private f' } ∷ d.rows.kept } }))
          filled_keeps f' c words' untouched here fills = quiet_keeps row (kept id (Private f')) c (Private f') words'
              (private_moves (kept id (Private f')) c (λ seat keeping apart e. apart (let same : id ≡ seat = cc in sym same)))
              (private_quiet (kept id (Private f')) (λ site e. absurd (cc)) (λ bucket e. absurd (cc))) untouched here refl
              (λ g e. subst (λ (y : KnownWords). TrueWords y c) (let same : f' ≡ g = cc in same) fills)

          abbrev old : Row k gen name r.state r.content words row
          old = r.row row small

          known : TrueWords f (r.content row)
          known = (r.each id d at).stored row f small mine

          claimed_still : (i x : ℕ) → i ≢ 4 * row → get_or (set words i x) (4 * row) 0 ≡ 1
          claimed_still i x apart = get_or-set_other words i (4 * row) x 0 (λ e. apart (sym e)) ∙ old.claimed (λ e. absurd (let w : r.state row ≡ kept id (Private f) = is in cc))

          pub handle_keeps : (h : Handle) (x : ℕ) → IsHandlePacking h x → WasBound k gen name h
              → Rows k gen name epoch pins cells (set words (4 * row + 1) x) buckets (set seats id (record { who = d.who; rows = record d.rows { kept = record { row = row; keeping = Private (record f { handle = Some h }) } ∷ d.rows.kept } }))
          handle_keeps h x packing bound = filled_keeps (record f { handle = Some h }) (record (r.content row) { handle = h }) (set words (4 * row + 1) x) (untouched_by words row (4 * row + 1) x (omega arith) (omega arith)) (record {
            unclaimed = λ e. absurd (cc);
            claimed = λ not. claimed_still (4 * row + 1) x (λ e. omega arith);
            handle = subst (IsHandlePacking h) (sym (get_or-set_same words (4 * row + 1) x 0 (omega arith))) packing;
            token = get_or-set_other words (4 * row + 1) (4 * row + 2) x 0 (λ e. omega arith) ∙ old.token;
            target = get_or-set_other words (4 * row + 1) (4 * row + 3) x 0 (λ e. omega arith) ∙ old.target;
            handle_row = bound.row;
            old = bound.old;
            token_fits = old.token_fits;
            target_fits = old.target_fits;
            agrees = λ (shown : ⊥). absurd shown;
          }) (record { handle = refl; token = known.token; target = known.target })

          pub token_keeps : (x : ℕ) → x < 2 ^ 16
              → Rows k gen name epoch pins cells (set words (4 * row + 2) x) buckets (set seats id (record { who = d.who; rows = record d.rows { kept = record { row = row; keeping = Private (record f { token = Some x }) } ∷ d.rows.kept } }))
          token_keeps x fits = filled_keeps (record f { token = Some x }) (record (r.content row) { token = x }) (set words (4 * row + 2) x) (untouched_by words row (4 * row + 2) x (omega arith) (omega arith)) (record {
            unclaimed = λ e. absurd (cc);
            claimed = λ not. claimed_still (4 * row + 2) x (λ e. omega arith);
            handle = subst (IsHandlePacking (r.content row).handle) (sym (get_or-set_other words (4 * row + 2) (4 * row + 1) x 0 (λ e. omega arith))) old.handle;
            token = get_or-set_same words (4 * row + 2) x 0 (omega arith);
            target = get_or-set_other words (4 * row + 2) (4 * row + 3) x 0 (λ e. omega arith) ∙ old.target;
            handle_row = old.handle_row;
            old = old.old;
            token_fits = fits;
            target_fits = old.target_fits;
            agrees = λ (shown : ⊥). absurd shown;
          }) (record { handle = known.handle; token = refl; target = known.target })

          pub target_keeps : (x : ℕ) → x < 2 ^ 32
              → Rows k gen name epoch pins cells (set words (4 * row + 3) x) buckets (set seats id (record { who = d.who; rows = record d.rows { kept = record { row = row; keeping = Private (record f { target = Some x }) } ∷ d.rows.kept } }))
          target_keeps x fits = filled_keeps (record f { target = Some x }) (record (r.content row) { target = x }) (set words (4 * row + 3) x) (untouched_by words row (4 * row + 3) x (omega arith) (omega arith)) (record {
            unclaimed = λ e. absurd (cc);
            claimed = λ not. claimed_still (4 * row + 3) x (λ e. omega arith);
            handle = subst (IsHandlePacking (r.content row).handle) (sym (get_or-set_other words (4 * row + 3) (4 * row + 1) x 0 (λ e. omega arith))) old.handle;
            token = get_or-set_other words (4 * row + 3) (4 * row + 2) x 0 (λ e. omega arith) ∙ old.token;
            target = get_or-set_same words (4 * row + 3) x 0 (omega arith);
            handle_row = old.handle_row;
            old = old.old;
            token_fits = old.token_fits;
            target_fits = fits;
            agrees = λ (shown : ⊥). absurd shown;
          }) (record { handle = known.handle; token = known.token; target = refl })
