-- What a step on rows has to show, and no more, so that the rule on rows keepings after it.
use Rattle.std.proofs.Common.{◌≡◌, ◌≢◌, ◌⊎◌, ⊎_elim, ℕ, zero, suc, ◌+◌, ◌<◌, ◌≤◌, ◌^◌, List, [], ◌∷◌, Option, Some, None, length, get_or, set, ap, sym, refl, ◌∙◌, subst, arith, length-set, get_or-set_other}
use Rattle.std.specs.Prelude.{IfSome}
use mathlib.Core.Option.{some, some-injective, some-ne-none}
use lib.ListN.{get_elem?}
use Rattle.atomic_table.proofs.Lists.{at_set}
use Rattle.vsd_words.specs.declared.cell_word.CellWord.{CellWord}
use Rattle.vsd_words.specs.declared.cell_word.CellWord.TheVariants.{Dispatch}
use Rattle.vsd_words.specs.CellWord.{IsCellPacking}
use Rattle.vsd_rule.specs.declared.key.Key.{Key}
use Rattle.vsd_rule.specs.declared.row_view.Keeping.{Keeping}
use Rattle.vsd_rule.specs.declared.row_view.Keeping.TheVariants.{Retired}
use Rattle.vsd_rule.specs.declared.row_view.ProtectedRow.{ProtectedRow}
use Rattle.vsd_rule.specs.declared.row_view.RetiredRow.{RetiredRow}
use Rattle.vsd_rule.specs.declared.view.Who.{Who}
use Rattle.vsd_rule.specs.declared.view.Who.TheVariants.{Root, Caller}
use Rattle.vsd_rule.specs.Lists.{site_token}
use Rattle.vsd_rule.specs.Rows.{RowSeat, Rows, Row, TrueRowView, RowState, Content, in_cell, in_bucket, kept, KeepsAsTold, Pins, Protects, ProtectsAll}
use Rattle.vsd_rule.proofs.HandleSteps.{Apart}

-- a list of protected has one of the row
pub record SeesRow (protected : List ProtectedRow) (row : ℕ) : Type 0 where
  pub index : ℕ
  pub entry : ProtectedRow
  pub there : get_elem? protected index ≡ some entry
  pub same : entry.row ≡ row

module _ (k : Key) where
  pub record CellPart (state : ℕ → RowState) (content : ℕ → Content) (cell_word : ℕ → CellWord) (cells : List ℕ) : Type 0 where
    pub packing : (site : ℕ) → site < k.sizes.sites → IsCellPacking (cell_word site) (get_or cells site 0)
    pub names : (site row : ℕ) → site < k.sizes.sites → cell_word site ≡ Dispatch row → (row < k.sizes.rows) × (state row ≡ in_cell site)
    pub named : (site row : ℕ) → row < k.sizes.rows → state row ≡ in_cell site → (site < k.sizes.sites) × (cell_word site ≡ Dispatch row) × ((content row).token ≡ site_token k site)

  pub record BucketPart (state : ℕ → RowState) (buckets : List ℕ) : Type 0 where
    pub names : (bucket row : ℕ) → bucket < k.sizes.buckets → get_or buckets bucket 0 ≡ row + 1 → (row < k.sizes.rows) × (state row ≡ in_bucket bucket)
    pub named : (bucket row : ℕ) → row < k.sizes.rows → state row ≡ in_bucket bucket → (bucket < k.sizes.buckets) × (get_or buckets bucket 0 ≡ row + 1)

  -- ---- protected, one by one and all

  module _ (state : ℕ → RowState) (content : ℕ → Content) (pinned : ℕ) where
    pub protects_at : (xs : List ProtectedRow) → ProtectsAll k state content pinned xs → (i : ℕ) (x : ProtectedRow) → get_elem? xs i ≡ some x → Protects k state content pinned x
    protects_at [] all i x is = absurd (some-ne-none x (sym is))
    protects_at (y ∷ ys) all zero x is = subst (Protects k state content pinned) (some-injective y x is) all.0
    protects_at (y ∷ ys) all (suc i) x is = protects_at ys all.1 i x is

    pub protects_all : (xs : List ProtectedRow) → ((i : ℕ) (x : ProtectedRow) → get_elem? xs i ≡ some x → Protects k state content pinned x) → ProtectsAll k state content pinned xs
    protects_all [] each = tt
    protects_all (y ∷ ys) each = (each 0 y refl, protects_all ys (λ i x is. each (suc i) x is))

  module _ {gen : ℕ → ℕ} {name : ℕ → ℕ → ℕ} where
    module _ {epoch : ℕ} {pins cells words buckets : List ℕ} {seats : List RowSeat} (r : Rows k gen name epoch pins cells words buckets seats) where
      pub cells_of : CellPart r.state r.content r.cell_word cells
      cells_of = record { packing = r.cell; names = r.cell_names; named = r.cell_named }

      pub buckets_of : BucketPart r.state buckets
      buckets_of = record { names = r.bucket_names; named = r.bucket_named }

      -- a row in a queue of limbo is there
      pub limbo_state : (seat i : ℕ) (a : RowSeat) (x : RetiredRow) → get_elem? seats seat ≡ some a → get_elem? a.rows.limbo i ≡ some x → r.state x.row ≡ kept seat (Retired x.epoch)
      limbo_state seat i a x at is =
          let m = r.each seat a at in
          let w = m.limbo i x is in
          subst (KeepsAsTold seat (r.state x.row)) w.keeping (m.keepings x.row w.row)

      module _ (id : ℕ) (d d' : RowSeat) where
        -- no caller that a sweep has passed comes to protect the row that is swept
        pub record Sweeps : Type 0 where
          pub mine : (other number i : ℕ) (e : RowSeat) (x : RetiredRow) (y : ProtectedRow) → get_elem? (set seats id d') other ≡ some e → e.who ≡ Caller number → number < d'.rows.passed
              → get_elem? d'.rows.limbo 0 ≡ some x → get_elem? e.rows.protected i ≡ some y → 0 < e.rows.pinned → y.row ≢ x.row
          pub who : d'.who ≡ d.who
          pub protected : (i : ℕ) (y : ProtectedRow) → 0 < d'.rows.pinned → get_elem? d'.rows.protected i ≡ some y
              → ((0 < d.rows.pinned) × SeesRow d.rows.protected y.row) ⊎ ((seat since : ℕ) → r.state y.row ≢ kept seat (Retired since))

        pub record Steps (state' : ℕ → RowState) (content' : ℕ → Content) (cell_word' : ℕ → CellWord) (epoch' : ℕ) (pins' cells' words' buckets' : List ℕ) : Type 0 where
          pub small : epoch' ≤ 2 ^ 62
          pub rows : (row : ℕ) → row < k.sizes.rows → Row k gen name state' content' words' row
          pub keeper : (row seat : ℕ) (keeping : Keeping) → row < k.sizes.rows → state' row ≡ kept seat keeping → seat < length seats
          pub in_cells : CellPart state' content' cell_word' cells'
          pub in_buckets : BucketPart state' buckets'
          pub others : (seat : ℕ) (e : RowSeat) → seat ≢ id → get_elem? seats seat ≡ some e → TrueRowView k gen name state' content' epoch' pins' seat e
          pub mine : TrueRowView k gen name state' content' epoch' pins' id d'
          pub sweeps : Sweeps

        module _ (at : get_elem? seats id ≡ some d) {state' : ℕ → RowState} {content' : ℕ → Content} {cell_word' : ℕ → CellWord} {epoch' : ℕ} {pins' cells' words' buckets' : List ℕ} (s : Steps state' content' cell_word' epoch' pins' cells' words' buckets') where
          -- another seat's sweep and this seat's protected
          swept_by_other : (seat number i : ℕ) (a : RowSeat) (x : RetiredRow) (y : ProtectedRow) → get_elem? seats seat ≡ some a → d'.who ≡ Caller number → number < a.rows.passed
              → get_elem? a.rows.limbo 0 ≡ some x → get_elem? d'.rows.protected i ≡ some y → 0 < d'.rows.pinned → y.row ≢ x.row
          swept_by_other seat number i a x y there who passed oldest is pinned same = ⊎_elim
              (λ (t : (0 < d.rows.pinned) × SeesRow d.rows.protected y.row). let z = t.1 in
              r.swept seat id number z.index a d x z.entry there at (sym s.sweeps.who ∙ who) passed oldest z.there t.0 (z.same ∙ same))
              (λ (none : (other since : ℕ) → r.state y.row ≢ kept other (Retired since)). none seat x.epoch (ap r.state same ∙ limbo_state seat 0 a x there oldest))
              (s.sweeps.protected i y pinned is)

          swept_after : (seat other number i : ℕ) (a e : RowSeat) (x : RetiredRow) (y : ProtectedRow) → get_elem? (set seats id d') seat ≡ some a → get_elem? (set seats id d') other ≡ some e
              → e.who ≡ Caller number → number < a.rows.passed → get_elem? a.rows.limbo 0 ≡ some x → get_elem? e.rows.protected i ≡ some y → 0 < e.rows.pinned → y.row ≢ x.row
          swept_after seat other number i a e x y there over who passed oldest is pinned = ⊎_elim
              (λ (t : (seat ≡ id) × (d' ≡ a)). let same = sym t.1 in s.sweeps.mine other number i e x y over who
              (subst (λ (q : RowSeat). number < q.rows.passed) same passed) (subst (λ (q : RowSeat). get_elem? q.rows.limbo 0 ≡ some x) same oldest) is pinned)
              (λ (t : (seat ≢ id) × (get_elem? seats seat ≡ some a)). ⊎_elim
              (λ (u : (other ≡ id) × (d' ≡ e)). let same = sym u.1 in swept_by_other seat number i a x y t.1
              (subst (λ (q : RowSeat). q.who ≡ Caller number) same who) passed oldest (subst (λ (q : RowSeat). get_elem? q.rows.protected i ≡ some y) same is) (subst (λ (q : RowSeat). 0 < q.rows.pinned) same pinned))
              (λ (u : (other ≢ id) × (get_elem? seats other ≡ some e)). r.swept seat other number i a e x y t.1 u.1 who passed oldest is pinned)
              (at_set seats id other d' e over))
              (at_set seats id seat d' a there)

          pub rows_after : Rows k gen name epoch' pins' cells' words' buckets' (set seats id d')
          rows_after = record {
            state = state';
            content = content';
            cell_word = cell_word';
            epoch_small = s.small;
            row = s.rows;
            keeper = λ row seat keeping small is. subst (λ (n : ℕ). seat < n) (sym (length-set seats id d')) (s.keeper row seat keeping small is);
            cell = s.in_cells.packing;
            cell_names = s.in_cells.names;
            cell_named = s.in_cells.named;
            bucket_names = s.in_buckets.names;
            bucket_named = s.in_buckets.named;
            each = λ seat e there. ⊎_elim
                (λ (t : (seat ≡ id) × (d' ≡ e)). subst (λ (q : ℕ × RowSeat). TrueRowView k gen name state' content' epoch' pins' q.0 q.1) (λ c. (sym t.0 c, t.1 c)) s.mine)
                (λ (t : (seat ≢ id) × (get_elem? seats seat ≡ some e)). s.others seat e t.0 t.1)
                (at_set seats id seat d' e there);
            swept = swept_after;
          }

    -- ---- seats that a step leaves alone

    module _ {state : ℕ → RowState} {content : ℕ → Content} {epoch epoch' : ℕ} {pins pins' : List ℕ} where
      -- no row moves, and the epoch does not fall
      pub others_still : (grown : epoch ≤ epoch') (seat : ℕ) (e : RowSeat) → Pins k pins' e.who e.rows.pinned → TrueRowView k gen name state content epoch pins seat e → TrueRowView k gen name state content epoch' pins' seat e
      others_still grown seat e pin m = record {
        pin = pin;
        pinned = let p = m.pinned in omega arith;
        loaded = loaded_still e.rows.epoch m.loaded;
        cursor = m.cursor;
        keepings = m.keepings;
        stored = m.stored;
        limbo = λ i x is. let w = m.limbo i x is in record { row = w.row; keeping = w.keeping; since = let q = w.since in omega arith };
        once = m.once;
        room = m.room;
        passed = m.passed;
        protects = m.protects;
        evidences = m.evidences;
      }
        where
          loaded_still : (loaded : Option ℕ) → IfSome loaded (λ (x : ℕ). x ≤ epoch) → IfSome loaded (λ (x : ℕ). x ≤ epoch')
          loaded_still None all = tt
          loaded_still (Some x) all = omega arith

  -- the epoch word of another caller
  pub pins_apart : (pins : List ℕ) (caller x : ℕ) (who : Who) (pinned : ℕ) → Apart caller who → Pins k pins who pinned → Pins k (set pins caller x) who pinned
  pins_apart pins caller x (Root next) pinned apart p = (p.0, λ other from below. get_or-set_other pins caller other x 0 (λ e. omega arith) ∙ p.1 other from below)
  pins_apart pins caller x (Caller number) pinned apart p = get_or-set_other pins caller number x 0 apart ∙ p
