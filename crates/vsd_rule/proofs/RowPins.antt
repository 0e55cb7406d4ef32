-- Steps at which no row moves: pins, loads of the epoch, its raise, and the move of the cursor.
use Rattle.std.proofs.Common.{◌≡◌, ◌≢◌, ◌⊎◌, inl, ℕ, ◌+◌, ◌<◌, ◌≤◌, ◌^◌, List, [], Option, length, set, ap, sym, refl, ◌∙◌, subst, ⊎_elim, arith, get_or-set_same}
use Rattle.std.specs.Prelude.{IfSome}
use mathlib.Core.Option.{some, some-ne-none}
use lib.ListN.{get_elem?}
use Rattle.atomic_table.proofs.Lists.{at_set}
use Rattle.vsd_rule.specs.declared.key.Key.{Key}
use Rattle.vsd_rule.specs.declared.row_view.KeptRow.{KeptRow}
use Rattle.vsd_rule.specs.declared.row_view.Keeping.TheVariants.{Retired}
use Rattle.vsd_rule.specs.declared.row_view.ProtectedRow.{ProtectedRow}
use Rattle.vsd_rule.specs.declared.row_view.RetiredRow.{RetiredRow}
use Rattle.vsd_rule.specs.declared.view.Who.{Who}
use Rattle.vsd_rule.specs.declared.view.Who.TheVariants.{Caller}
use Rattle.vsd_rule.specs.Rows.{RowSeat, Rows, KeepsAsTold, kept, Pins, keeping_of}
use Rattle.vsd_rule.proofs.HandleSteps.{Apart}
use Rattle.vsd_rule.proofs.RowFrames.{SeesRow, Sweeps, cells_of, buckets_of, limbo_state, rows_after, others_still, pins_apart}

module _ (k : Key) {gen : ℕ → ℕ} {name : ℕ → ℕ → ℕ} {epoch : ℕ} {pins cells words buckets : List ℕ} {seats : List RowSeat} (r : Rows k gen name epoch pins cells words buckets seats)
    (id : ℕ) (d : RowSeat) (at : get_elem? seats id ≡ some d) where
  -- a seat whose sweep has come no further, of the same row
  pub sweeps_by : (d' : RowSeat) → d'.who ≡ d.who
      → ((number : ℕ) (x : RetiredRow) → number < d'.rows.passed → get_elem? d'.rows.limbo 0 ≡ some x → (number < d.rows.passed) × (get_elem? d.rows.limbo 0 ≡ some x))
      → ((i : ℕ) (y : ProtectedRow) → 0 < d'.rows.pinned → get_elem? d'.rows.protected i ≡ some y
      → ((0 < d.rows.pinned) × SeesRow d.rows.protected y.row) ⊎ ((seat since : ℕ) → r.state y.row ≢ kept seat (Retired since)))
      → Sweeps k r id d d'
  sweeps_by d' who before protected = record {
    who = who;
    protected = protected;
    mine = λ other number i e x y over is_who below oldest is pinned. let b = before number x below oldest in ⊎_elim
        (λ (t : (other ≡ id) × (d' ≡ e)). let back = sym t.1 in ⊎_elim
        (λ (u : (0 < d.rows.pinned) × SeesRow d.rows.protected y.row). let z = u.1 in λ same.
        r.swept id id number z.index d d x z.entry at at (sym who ∙ subst (λ (q : RowSeat). q.who ≡ Caller number) back is_who) b.0 b.1 z.there u.0 (z.same ∙ same))
        (λ (none : (seat since : ℕ) → r.state y.row ≢ kept seat (Retired since)). λ same. none id x.epoch (ap r.state same ∙ limbo_state k r id 0 d x at b.1))
        (protected i y (subst (λ (q : RowSeat). 0 < q.rows.pinned) back pinned) (subst (λ (q : RowSeat). get_elem? q.rows.protected i ≡ some y) back is)))
        (λ (t : (other ≢ id) × (get_elem? seats other ≡ some e)). r.swept id other number i d e x y at t.1 is_who b.0 b.1 is pinned)
        (at_set seats id other d' e over);
  }

  pub sweeps_still : (d' : RowSeat) → d'.who ≡ d.who → d'.rows.limbo ≡ d.rows.limbo → d'.rows.passed ≡ d.rows.passed
      → ((i : ℕ) (y : ProtectedRow) → 0 < d'.rows.pinned → get_elem? d'.rows.protected i ≡ some y
      → ((0 < d.rows.pinned) × SeesRow d.rows.protected y.row) ⊎ ((seat since : ℕ) → r.state y.row ≢ kept seat (Retired since)))
      → Sweeps k r id d d'
  sweeps_still d' who limbo passed = sweeps_by d' who
      (λ number x below oldest. (subst (λ (n : ℕ). number < n) passed below, subst (λ (xs : List RetiredRow). get_elem? xs 0 ≡ some x) limbo oldest))

  -- rows that were protected are protected as before
  pub seen_before : (i : ℕ) (y : ProtectedRow) → 0 < d.rows.pinned → get_elem? d.rows.protected i ≡ some y
      → ((0 < d.rows.pinned) × SeesRow d.rows.protected y.row) ⊎ ((seat since : ℕ) → r.state y.row ≢ kept seat (Retired since))
  seen_before i y pinned is = inl (pinned, record { index = i; entry = y; there = is; same = refl })

  -- ---- the own epoch word, at a pin and at an unpin

  abbrev pub repinned : ℕ → RowSeat
  repinned x = record { who = d.who; rows = record d.rows { pinned = x; protected = [] } }

  pub repinned_keeps : (x caller : ℕ) → d.who ≡ Caller caller → caller < length pins → x ≤ epoch + 1 → ((seat : ℕ) (e : RowSeat) → seat ≢ id → get_elem? seats seat ≡ some e → Apart caller e.who)
      → Rows k gen name epoch (set pins caller x) cells words buckets (set seats id (repinned x))
  repinned_keeps x caller who below small apart = let t = r.each id d at in rows_after k r id d (repinned x) at (record {
    small = r.epoch_small;
    rows = r.row;
    keeper = r.keeper;
    in_cells = cells_of k r;
    in_buckets = buckets_of k r;
    others = λ seat e other there. let m = r.each seat e there in others_still k (omega arith) seat e (pins_apart k pins caller x e.who e.rows.pinned (apart seat e other there) m.pin) m;
    mine = record {
      pin = subst (λ (w : Who). Pins k (set pins caller x) w x) (sym who) (get_or-set_same pins caller x 0 below);
      pinned = small;
      loaded = t.loaded;
      cursor = t.cursor;
      keepings = t.keepings;
      stored = t.stored;
      limbo = t.limbo;
      once = t.once;
      room = t.room;
      passed = t.passed;
      protects = λ pinned. tt;
      evidences = t.evidences;
    };
    sweeps = sweeps_still (repinned x) refl refl refl (λ i y pinned is. absurd (some-ne-none y (sym is)));
  })

  -- ---- the epoch: a load by this seat, or a raise

  abbrev pub with_epoch : Option ℕ → RowSeat
  with_epoch loaded = record { who = d.who; rows = record d.rows { epoch = loaded } }

  pub epoch_keeps : (epoch' : ℕ) (loaded : Option ℕ) → epoch ≤ epoch' → epoch' ≤ 2 ^ 62 → IfSome loaded (λ (e : ℕ). e ≤ epoch') → Rows k gen name epoch' pins cells words buckets (set seats id (with_epoch loaded))
  epoch_keeps epoch' loaded grown small is = let t = others_still k grown id d (r.each id d at).pin (r.each id d at) in rows_after k r id d (with_epoch loaded) at (record {
    small = small;
    rows = r.row;
    keeper = r.keeper;
    in_cells = cells_of k r;
    in_buckets = buckets_of k r;
    others = λ seat e other there. let m = r.each seat e there in others_still k grown seat e m.pin m;
    mine = record {
      pin = t.pin;
      pinned = t.pinned;
      loaded = is;
      cursor = t.cursor;
      keepings = t.keepings;
      stored = t.stored;
      limbo = t.limbo;
      once = t.once;
      room = t.room;
      passed = t.passed;
      protects = t.protects;
      evidences = t.evidences;
    };
    sweeps = sweeps_still (with_epoch loaded) refl refl refl seen_before;
  })

  -- ---- the cursor

  abbrev pub with_cursor : ℕ → RowSeat
  with_cursor cursor = record { who = d.who; rows = record d.rows { cursor = cursor } }

  pub cursor_keeps : (cursor : ℕ) → (0 < k.sizes.rows → cursor < k.sizes.rows) → Rows k gen name epoch pins cells words buckets (set seats id (with_cursor cursor))
  cursor_keeps cursor is = let t = r.each id d at in rows_after k r id d (with_cursor cursor) at (record {
    small = r.epoch_small;
    rows = r.row;
    keeper = r.keeper;
    in_cells = cells_of k r;
    in_buckets = buckets_of k r;
    others = λ seat e other there. r.each seat e there;
    mine = record {
      pin = t.pin;
      pinned = t.pinned;
      loaded = t.loaded;
      cursor = is;
      keepings = t.keepings;
      stored = t.stored;
      limbo = t.limbo;
      once = t.once;
      room = t.room;
      passed = t.passed;
      protects = t.protects;
      evidences = t.evidences;
    };
    sweeps = sweeps_still (with_cursor cursor) refl refl refl seen_before;
  })

  -- ---- another list of updates that says the same of each row

  pub rehold_keeps : (keepings' : List KeptRow) → ((other : ℕ) → keeping_of other keepings' ≡ keeping_of other d.rows.kept)
      → Rows k gen name epoch pins cells words buckets (set seats id (record { who = d.who; rows = record d.rows { kept = keepings' } }))
  rehold_keeps keepings' alike =
      let d' : RowSeat = record { who = d.who; rows = record d.rows { kept = keepings' } } in
      let t = r.each id d at in
      rows_after k r id d d' at (record {
        small = r.epoch_small;
        rows = r.row;
        keeper = r.keeper;
        in_cells = cells_of k r;
        in_buckets = buckets_of k r;
        others = λ seat e other there. r.each seat e there;
        mine = record {
          pin = t.pin;
          pinned = t.pinned;
          loaded = t.loaded;
          cursor = t.cursor;
          keepings = λ other below. subst (KeepsAsTold id (r.state other)) (sym (alike other)) (t.keepings other below);
          stored = λ other f below is. t.stored other f below (sym (alike other) ∙ is);
          limbo = λ i x is. let w = t.limbo i x is in record { row = w.row; keeping = alike x.row ∙ w.keeping; since = w.since };
          once = t.once;
          room = t.room;
          passed = t.passed;
          protects = t.protects;
          evidences = t.evidences;
        };
        sweeps = sweeps_still d' refl refl refl seen_before;
      })
