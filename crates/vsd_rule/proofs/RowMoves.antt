-- One row moves to another state, perhaps with other words: what that keeps of the rule on rows, once for all steps.
use Rattle.std.proofs.Common.{◌≡◌, ◌≢◌, ℕ, zero, suc, ◌+◌, ◌*◌, ◌<◌, ◌≤◌, ◌^◌, List, [], ◌∷◌, cond, length, get_or, ap, sym, refl, ◌∙◌, subst, arith}
use Rattle.std.proofs.Common.{eq-eqb, ne_eqb}
use Rattle.std.specs.Prelude.{IfSome}
use mathlib.Core.Logic.{dite}
use mathlib.Core.Option.{some, some-ne-none}
use native.Mathlib.Decide.{ℕ_discrete}
use lib.ListN.{get_elem?}
use Rattle.vsd_rule.specs.declared.key.Key.{Key}
use Rattle.vsd_rule.specs.declared.row_view.KnownWords.{KnownWords}
use Rattle.vsd_rule.specs.declared.row_view.KeptRow.{KeptRow}
use Rattle.vsd_rule.specs.declared.row_view.Keeping.{Keeping}
use Rattle.vsd_rule.specs.declared.row_view.Keeping.TheVariants.{Elsewhere, Private, Unlinked, Retired}
use Rattle.vsd_rule.specs.declared.row_view.ProtectedRow.{ProtectedRow}
use Rattle.vsd_rule.specs.declared.row_view.RetiredRow.{RetiredRow}
use Rattle.vsd_rule.specs.Rows.{RowSeat, Rows, Row, TrueRowView, RowState, Content, in_cell, in_bucket, kept, KeepsAsTold, Protects, IsRetired, TrueWords, WasPublished, Agrees, keeping_of}
use Rattle.vsd_rule.specs.Layout.{handle_rows}
use Rattle.vsd_rule.specs.Lists.{site_token}
use Rattle.vsd_words.specs.Handle.{IsHandlePacking}
use Rattle.vsd_rule.proofs.Points.{put, put_here, put_else}
use Rattle.vsd_rule.proofs.RowFrames.{CellPart, BucketPart, SeesRow, protects_at, protects_all, cells_of, buckets_of}

-- ---- the latest entry of a row counts

pub keeping_here : (row : ℕ) (h : Keeping) (xs : List KeptRow) → keeping_of row (record { row = row; keeping = h } ∷ xs) ≡ h
keeping_here row h xs = ap (λ b. cond b h (keeping_of row xs)) (eq-eqb row row refl)

pub keeping_else : (row other : ℕ) (h : Keeping) (xs : List KeptRow) → other ≢ row → keeping_of other (record { row = row; keeping = h } ∷ xs) ≡ keeping_of other xs
keeping_else row other h xs apart = ap (λ b. cond b h (keeping_of other xs)) (ne_eqb row other (λ e. apart (sym e)))

-- what is there is below the length
pub there_below : {A : Type 0} (l : List A) (i : ℕ) (a : A) → get_elem? l i ≡ some a → i < length l
there_below [] i a is = absurd (some-ne-none a (sym is))
there_below (x ∷ xs) zero a is = omega arith
there_below (x ∷ xs) (suc i) a is = omega (arith, there_below xs i a is)

-- a seat that has a row neither before nor after
has_neither : (seat : ℕ) (p q : RowState) (h : Keeping) → ((keeping : Keeping) → p ≢ kept seat keeping) → ((keeping : Keeping) → q ≢ kept seat keeping) → KeepsAsTold seat p h → KeepsAsTold seat q h
has_neither seat p q Elsewhere from to has = to
has_neither seat p q (Private f) from to has = absurd (from (Private f) has)
has_neither seat p q Unlinked from to has = absurd (from Unlinked has)
has_neither seat p q (Retired e) from to has = absurd (from (Retired e) has)

-- a row waits still where another one has moved
pub waits_still : (k : Key) {epoch epoch' : ℕ} (keepings : List KeptRow) (row : ℕ) (h : Keeping) (x : RetiredRow) → epoch ≤ epoch' → x.row ≢ row → IsRetired k epoch keepings x → IsRetired k epoch' (record { row = row; keeping = h } ∷ keepings) x
waits_still k keepings row h x grown apart w = record { row = w.row; keeping = keeping_else row x.row h keepings apart ∙ w.keeping; since = let q = w.since in omega arith }

-- ---- rows whose words a step leaves alone

pub record Untouched (words words' : List ℕ) (row : ℕ) : Type 0 where
  pub claim : get_or words' (4 * row) 0 ≡ get_or words (4 * row) 0
  pub handle : get_or words' (4 * row + 1) 0 ≡ get_or words (4 * row + 1) 0
  pub token : get_or words' (4 * row + 2) 0 ≡ get_or words (4 * row + 2) 0
  pub target : get_or words' (4 * row + 3) 0 ≡ get_or words (4 * row + 3) 0

pub untouched_same : (words : List ℕ) (row : ℕ) → Untouched words words row
untouched_same words row = record { claim = refl; handle = refl; token = refl; target = refl }

module _ (k : Key) {gen : ℕ → ℕ} {name : ℕ → ℕ → ℕ} where
  -- what is said of a row depends on its state, its content and its four words alone
  pub row_same : {state state' : ℕ → RowState} {content content' : ℕ → Content} {words words' : List ℕ} (row : ℕ) → state' row ≡ state row → content' row ≡ content row → Untouched words words' row
      → Row k gen name state content words row → Row k gen name state' content' words' row
  row_same {state} {state'} {content} {content'} {words} {words'} row p c u r = record {
    unclaimed = λ is. u.claim ∙ r.unclaimed (sym p ∙ is);
    claimed = λ not. u.claim ∙ r.claimed (λ is. not (p ∙ is));
    handle = subst (λ (x : Content). IsHandlePacking x.handle (get_or words' (4 * row + 1) 0)) (sym c) (subst (λ (n : ℕ). IsHandlePacking (content row).handle n) (sym u.handle) r.handle);
    token = u.token ∙ (r.token ∙ ap (λ (x : Content). x.token) (sym c));
    target = u.target ∙ (r.target ∙ ap (λ (x : Content). x.target) (sym c));
    handle_row = subst (λ (x : Content). x.handle.row < handle_rows k.sizes) (sym c) r.handle_row;
    old = subst (λ (x : Content). x.handle.generation ≤ gen x.handle.row) (sym c) r.old;
    token_fits = subst (λ (x : Content). x.token < 2 ^ 16) (sym c) r.token_fits;
    target_fits = subst (λ (x : Content). x.target < 2 ^ 32) (sym c) r.target_fits;
    agrees = λ shown. subst (λ (x : Content). Agrees k gen name x.handle x.token x.target) (sym c) (r.agrees (subst WasPublished p shown));
  }

  -- and so it may be said over constant functions
  pub row_at : {state : ℕ → RowState} {content : ℕ → Content} {words : List ℕ} (row : ℕ) (q : RowState) (c : Content) → state row ≡ q → content row ≡ c
      → Row k gen name (λ _. q) (λ _. c) words row → Row k gen name state content words row
  row_at {words = words} row q c p e r = row_same row p e (untouched_same words row) r

  -- ---- the move

  module _ {epoch : ℕ} {pins cells words buckets : List ℕ} {seats : List RowSeat} (r : Rows k gen name epoch pins cells words buckets seats) (id : ℕ) where
    -- the row comes from this seat or from none, goes to this seat or to none, and who protects it loses nothing
    pub record Moves (row : ℕ) (q : RowState) (c : Content) : Type 0 where
      pub small : row < k.sizes.rows
      pub from : (seat : ℕ) (keeping : Keeping) → seat ≢ id → r.state row ≢ kept seat keeping
      pub to : (seat : ℕ) (keeping : Keeping) → seat ≢ id → q ≢ kept seat keeping
      pub owed : (seat : ℕ) (e : RowSeat) → get_elem? seats seat ≡ some e → 0 < e.rows.pinned → SeesRow e.rows.protected row
          → WasPublished q × (c ≡ r.content row) × ((other since : ℕ) → q ≡ kept other (Retired since) → e.rows.pinned ≤ since + 1)

    module _ (row : ℕ) (q : RowState) (c : Content) (m : Moves row q c) where
      abbrev pub state' : ℕ → RowState
      state' = put r.state row q

      abbrev pub content' : ℕ → Content
      content' = put r.content row c

      pub rows_moved : (words' : List ℕ) → ((other : ℕ) → other ≢ row → other < k.sizes.rows → Untouched words words' other) → Row k gen name (λ _. q) (λ _. c) words' row
          → (other : ℕ) → other < k.sizes.rows → Row k gen name state' content' words' other
      rows_moved words' untouched here other small = dite (ℕ_discrete other row)
          (λ e. subst (λ (x : ℕ). Row k gen name state' content' words' x) (sym e) (row_at row q c (put_here r.state row q) (put_here r.content row c) here))
          (λ ne. row_same other (put_else r.state row q other ne) (put_else r.content row c other ne) (untouched other ne small) (r.row other small))

      pub keeper_moved : id < length seats → (other seat : ℕ) (keeping : Keeping) → other < k.sizes.rows → state' other ≡ kept seat keeping → seat < length seats
      keeper_moved below other seat keeping small is = dite (ℕ_discrete other row)
          (λ e. dite (ℕ_discrete seat id)
          (λ same. subst (λ (n : ℕ). n < length seats) (sym same) below)
          (λ apart. absurd (m.to seat keeping apart (sym (put_here r.state row q) ∙ (ap state' (sym e) ∙ is)))))
          (λ ne. r.keeper other seat keeping small (sym (put_else r.state row q other ne) ∙ is))

      -- what a pinned seat protects it protects still
      protects_moved : (seat : ℕ) (e : RowSeat) → get_elem? seats seat ≡ some e → 0 < e.rows.pinned → (i : ℕ) (x : ProtectedRow) → get_elem? e.rows.protected i ≡ some x
          → Protects k state' content' e.rows.pinned x
      protects_moved seat e there pinned i x is =
          let p : Protects k r.state r.content e.rows.pinned x = protects_at k r.state r.content e.rows.pinned e.rows.protected ((r.each seat e there).protects pinned) i x is in
          dite (ℕ_discrete x.row row)
          (λ same.
          let o = m.owed seat e there pinned (record { index = i; entry = x; there = is; same = same }) in
          let p_here : state' x.row ≡ q = ap state' same ∙ put_here r.state row q in
          let c_here : content' x.row ≡ r.content x.row = ap content' same ∙ (put_here r.content row c ∙ (o.1 ∙ ap r.content (sym same))) in
          record {
            row = p.row;
            published = subst WasPublished (sym p_here) o.0;
            seen = subst (TrueWords x.seen) (sym c_here) p.seen;
            site = subst (λ (y : Content). IfSome x.site (λ (s : ℕ). y.token ≡ site_token k s)) (sym c_here) p.site;
            before = λ other since at. o.2 other since (sym p_here ∙ at);
          })
          (λ ne.
          let p_else : state' x.row ≡ r.state x.row = put_else r.state row q x.row ne in
          let c_else : content' x.row ≡ r.content x.row = put_else r.content row c x.row ne in
          record {
            row = p.row;
            published = subst WasPublished (sym p_else) p.published;
            seen = subst (TrueWords x.seen) (sym c_else) p.seen;
            site = subst (λ (y : Content). IfSome x.site (λ (s : ℕ). y.token ≡ site_token k s)) (sym c_else) p.site;
            before = λ other since at. p.before other since (sym p_else ∙ at);
          })

      pub others_moved : (seat : ℕ) (e : RowSeat) → seat ≢ id → get_elem? seats seat ≡ some e → TrueRowView k gen name state' content' epoch pins seat e
      others_moved seat e apart there = let t = r.each seat e there in record {
        pin = t.pin;
        pinned = t.pinned;
        loaded = t.loaded;
        cursor = t.cursor;
        keepings = λ other small. dite (ℕ_discrete other row)
            (λ same. subst (λ (x : ℕ). KeepsAsTold seat (state' x) (keeping_of x e.rows.kept)) (sym same)
            (subst (λ (p : RowState). KeepsAsTold seat p (keeping_of row e.rows.kept)) (sym (put_here r.state row q))
            (has_neither seat (r.state row) q (keeping_of row e.rows.kept) (λ keeping. m.from seat keeping apart) (λ keeping. m.to seat keeping apart) (t.keepings row m.small))))
            (λ ne. subst (λ (p : RowState). KeepsAsTold seat p (keeping_of other e.rows.kept)) (sym (put_else r.state row q other ne)) (t.keepings other small));
        stored = λ other f small is. dite (ℕ_discrete other row)
            (λ same. absurd (m.from seat (Private f) apart (subst (KeepsAsTold seat (r.state row)) (ap (λ (x : ℕ). keeping_of x e.rows.kept) (sym same) ∙ is) (t.keepings row m.small))))
            (λ ne. subst (TrueWords f) (sym (put_else r.content row c other ne)) (t.stored other f small is));
        limbo = t.limbo;
        once = t.once;
        room = t.room;
        passed = t.passed;
        protects = λ pinned. protects_all k state' content' e.rows.pinned e.rows.protected (protects_moved seat e there pinned);
        evidences = t.evidences;
      }

      -- ---- the seat itself, which has the row as h from now on, and perhaps another queue of limbo

      module _ (d : RowSeat) (at : get_elem? seats id ≡ some d) (h : Keeping) (limbo' : List RetiredRow) (passed' : ℕ) where
        abbrev pub moved_view : RowSeat
        moved_view = record { who = d.who; rows = record d.rows { kept = record { row = row; keeping = h } ∷ d.rows.kept; limbo = limbo'; passed = passed' } }

        pub mine_moved : KeepsAsTold id q h → ((f : KnownWords) → h ≡ Private f → TrueWords f c)
            → ((i : ℕ) (x : RetiredRow) → get_elem? limbo' i ≡ some x → IsRetired k epoch (record { row = row; keeping = h } ∷ d.rows.kept) x)
            → ((i j : ℕ) (x y : RetiredRow) → get_elem? limbo' i ≡ some x → get_elem? limbo' j ≡ some y → x.row ≡ y.row → i ≡ j)
            → length limbo' ≤ 16 → passed' ≤ k.sizes.callers → TrueRowView k gen name state' content' epoch pins id moved_view
        mine_moved has fills waits once room passed = let t = r.each id d at in record {
          pin = t.pin;
          pinned = t.pinned;
          loaded = t.loaded;
          cursor = t.cursor;
          keepings = λ other small. dite (ℕ_discrete other row)
              (λ same. subst (λ (x : ℕ). KeepsAsTold id (state' x) (keeping_of x moved_view.rows.kept)) (sym same)
              (subst (λ (p : RowState). KeepsAsTold id p (keeping_of row moved_view.rows.kept)) (sym (put_here r.state row q))
              (subst (KeepsAsTold id q) (sym (keeping_here row h d.rows.kept)) has)))
              (λ ne. subst (λ (p : RowState). KeepsAsTold id p (keeping_of other moved_view.rows.kept)) (sym (put_else r.state row q other ne))
              (subst (KeepsAsTold id (r.state other)) (sym (keeping_else row other h d.rows.kept ne)) (t.keepings other small)));
          stored = λ other f small is. dite (ℕ_discrete other row)
              (λ same. subst (λ (x : ℕ). TrueWords f (content' x)) (sym same) (subst (TrueWords f) (sym (put_here r.content row c))
              (fills f (sym (keeping_here row h d.rows.kept) ∙ (ap (λ (x : ℕ). keeping_of x moved_view.rows.kept) (sym same) ∙ is)))))
              (λ ne. subst (TrueWords f) (sym (put_else r.content row c other ne)) (t.stored other f small (sym (keeping_else row other h d.rows.kept ne) ∙ is)));
          limbo = waits;
          once = once;
          room = room;
          passed = passed;
          protects = λ pinned. protects_all k state' content' d.rows.pinned d.rows.protected (protects_moved id d at pinned);
          evidences = t.evidences;
        }

      -- ---- cells and buckets that name the row neither before nor after

      pub cells_still : ((site : ℕ) → r.state row ≢ in_cell site) → ((site : ℕ) → q ≢ in_cell site) → CellPart k state' content' r.cell_word cells
      cells_still from to = let p = cells_of k r in record {
        packing = p.packing;
        names = λ site other small is. let t = p.names site other small is in dite (ℕ_discrete other row)
            (λ same. absurd (from site (ap r.state (sym same) ∙ t.1)))
            (λ ne. (t.0, put_else r.state row q other ne ∙ t.1));
        named = λ site other small is. dite (ℕ_discrete other row)
            (λ same. absurd (to site (sym (put_here r.state row q) ∙ (ap state' (sym same) ∙ is))))
            (λ ne. let t = p.named site other small (sym (put_else r.state row q other ne) ∙ is) in
            (t.0, t.1, ap (λ (x : Content). x.token) (put_else r.content row c other ne) ∙ t.2));
      }

      pub buckets_still : ((bucket : ℕ) → r.state row ≢ in_bucket bucket) → ((bucket : ℕ) → q ≢ in_bucket bucket) → BucketPart k state' buckets
      buckets_still from to = let p = buckets_of k r in record {
        names = λ bucket other small is. let t = p.names bucket other small is in dite (ℕ_discrete other row)
            (λ same. absurd (from bucket (ap r.state (sym same) ∙ t.1)))
            (λ ne. (t.0, put_else r.state row q other ne ∙ t.1));
        named = λ bucket other small is. dite (ℕ_discrete other row)
            (λ same. absurd (to bucket (sym (put_here r.state row q) ∙ (ap state' (sym same) ∙ is))))
            (λ ne. p.named bucket other small (sym (put_else r.state row q other ne) ∙ is));
      }
