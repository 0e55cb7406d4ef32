-- What the caller owns, over loads, unloads and other operations.
use Rattle.std.proofs.Common.{◌≡◌, ◌≢◌, ◌⊎◌, inl, inr, ℕ, ◌+◌, ◌-◌, ◌<◌, ◌≤◌, Bool, true, false, Some, position, slice_index_or, slice_set, sym, ◌∙◌, ap, subst, arith, ⊎_elim}
use Rattle.std.proofs.lemmas.Bool.{eqb-true}
use Rattle.std.proofs.lemmas.Bool.Decides.{nat_tests, eqb_tells}
use Rattle.std.proofs.lemmas.List.{get_or-set_same, get_or-set_other}
use Rattle.std.proofs.lemmas.List.Quantifiers.{position-Some}
use Rattle.vsd_words.specs.declared.handle.Handle.{Handle}
use Rattle.vsd_words.specs.declared.handle_word.HandleWord.{HandleWord}
use Rattle.vsd_rule.specs.declared.view.View.{View}
use Rattle.vsd_rule.specs.Layout.{first_row}
use Rattle.vsd_rule.specs.Seats.{caller_of, is_caller}
use Rattle.vsd_rule.specs.Handles.{blank_word, owned_word}
use Rattle.vsd_rule.specs.Moves.{own_index}
use Rattle.vsd_rule.specs.Facts.{IsOwn}
use Rattle.vsd_trails.specs.Words.{is_live_at}
use Rattle.vsd_trails.proofs.Loads.{and_both}
use Rattle.vsd_handles.specs.OwnRows.{own_row_word, IsOwned, IsNext, is_spare}
use Rattle.vsd_core.specs.Owning.{IsPast, KeepsHandles, LosesHandle}

-- ---- a handle word

pub live_word : (g : ℕ) (w : HandleWord) → is_live_at g w ≡ true → (w.live ≡ true) × (w.generation ≡ g)
live_word g w is = let both = and_both w.live _ is in (both.0, eqb-true w.generation g both.1)

spare_not_live : (w : HandleWord) → is_spare w ≡ true → w.live ≡ true → ⊥
spare_not_live w spare live = grind (arith, nat_tests)

-- ---- a view in which the caller and its table are the same

module _ (v w : View) (key : w.key ≡ v.key) (who : w.who ≡ v.who) where
  same_first : first_row w.key.sizes (caller_of w.who) ≡ first_row v.key.sizes (caller_of v.who)
  same_first i = first_row (key i).sizes (caller_of (who i))

  own_on : (row : ℕ) → IsOwn v row → IsOwn w row
  own_on row own = record {
    caller = ap is_caller who ∙ own.caller;
    from = subst (λ (n : ℕ). n ≤ row) (sym same_first) own.from;
    to = subst (λ (n : ℕ). row < n + 64) (sym same_first) own.to;
  }

  same_index : (row : ℕ) → own_index w row ≡ own_index v row
  same_index row = ap (λ (n : ℕ). row - n) same_first

  -- the row's word as it was
  owned_by : (h : Handle) → own_row_word w h.row ≡ own_row_word v h.row → IsOwned v h → IsOwned w h
  owned_by h word owned = record { row = own_on h.row owned.row; live = ap (is_live_at h.generation) word ∙ owned.live }

  past_by : (h : Handle) → own_row_word w h.row ≡ own_row_word v h.row → IsPast v h → IsPast w h
  past_by h word past = record {
    row = own_on h.row past.row;
    gone = subst (λ (x : HandleWord). (h.generation < x.generation) ⊎ ((h.generation ≡ x.generation) × (x.live ≡ false))) (sym word) past.gone;
  }

  pub keeps_same : w.handles.owned ≡ v.handles.owned → KeepsHandles v w
  keeps_same words =
      let word : (row : ℕ) → own_row_word w row ≡ own_row_word v row = λ row i. slice_index_or (words i) (same_index row i) blank_word in
      record { owned = λ h. owned_by h (word h.row); past = λ h. past_by h (word h.row) }

  -- ---- one of the words is another

  module _ (row : ℕ) (x : HandleWord) (words : w.handles.owned ≡ slice_set v.handles.owned (own_index v row) x) where
    other_word : (other : ℕ) → own_index v other ≢ own_index v row → own_row_word w other ≡ own_row_word v other
    other_word other apart =
        (λ i. slice_index_or (words i) (same_index other i) blank_word) ∙ get_or-set_other v.handles.owned (own_index v row) (own_index v other) x blank_word apart

    pub keeps_bound : (h : Handle) → h.row ≡ row → IsNext v h → x.generation ≡ h.generation → KeepsHandles v w
    keeps_bound h at next generation =
        let lowest : position is_spare v.handles.owned ≡ Some (own_index v row) = next.lowest ∙ ap (λ (n : ℕ). Some (own_index v n)) at in
        let there = position-Some is_spare v.handles.owned (own_index v row) blank_word lowest in
        let same : (other : ℕ) → own_index v other ≡ own_index v row → own_row_word w other ≡ x = λ other is.
        (λ i. slice_index_or (words i) (same_index other i) blank_word) ∙ (ap (λ (n : ℕ). slice_index_or (slice_set v.handles.owned (own_index v row) x) n blank_word) is ∙ get_or-set_same v.handles.owned (own_index v row) x blank_word there.0) in
        let before : (other : ℕ) → own_index v other ≡ own_index v row → own_row_word v other ≡ owned_word v.handles (own_index v row) = λ other is. ap (owned_word v.handles) is in
        let raised : h.generation ≡ (owned_word v.handles (own_index v row)).generation + 1 = next.raised ∙ ap (λ (n : ℕ). (own_row_word v n).generation + 1) at in
        record {
          owned = λ g owned. ⊎_elim
              (λ (e : _ × (own_index v g.row ≡ own_index v row)).
              absurd (spare_not_live (owned_word v.handles (own_index v row)) there.1 (subst (λ (y : HandleWord). y.live ≡ true) (before g.row e.1) (live_word g.generation (own_row_word v g.row) owned.live).0)))
              (λ e. owned_by g (other_word g.row e.1) owned)
              (eqb_tells (own_index v g.row) (own_index v row));
          past = λ g past. ⊎_elim
              (λ (e : _ × (own_index v g.row ≡ own_index v row)).
              let mine = ap (λ (y : HandleWord). y.generation) (before g.row e.1) in
              let theirs = ap (λ (y : HandleWord). y.generation) (same g.row e.1) in
              record {
                row = own_on g.row past.row;
                gone = inl (not_later g.generation (own_row_word v g.row).generation _ ((own_row_word v g.row).live ≡ false) past.gone (theirs ∙ (generation ∙ (raised ∙ ap (λ (n : ℕ). n + 1) (sym mine)))));
              })
              (λ e. past_by g (other_word g.row e.1) past)
              (eqb_tells (own_index v g.row) (own_index v row));
        }
      where
        not_later : (g old new : ℕ) (P : Type 0) → (g < old) ⊎ ((g ≡ old) × P) → new ≡ old + 1 → g < new
        not_later g old new P (inl less) is = omega arith
        not_later g old new P (inr same) is = let e = same.0 in omega arith

    pub loses : (h : Handle) → h.row ≡ row → IsOwned v h → own_row_word w h.row ≡ x → x.generation ≡ h.generation → x.live ≡ false → LosesHandle v w h
    loses h at owned word generation dead =
        let live = live_word h.generation (own_row_word v h.row) owned.live in
        let same_row : (g : Handle) → IsOwn v g.row → own_index v g.row ≡ own_index v row → g.row ≡ h.row = λ g own is.
        (let a = own.from in let b = owned.row.from in let e : own_index v g.row ≡ own_index v h.row = is ∙ ap (own_index v) (sym at) in omega arith) in
        record {
          past = record { row = own_on h.row owned.row; gone = inr (sym generation ∙ ap (λ (y : HandleWord). y.generation) (sym word), ap (λ (y : HandleWord). y.live) word ∙ dead) };
          not_owned = λ again. not_both x.live (sym (ap (λ (y : HandleWord). y.live) word) ∙ (live_word h.generation (own_row_word w h.row) again.live).0) dead;
          others = λ g apart mine. ⊎_elim
              (λ (e : _ × (own_index v g.row ≡ own_index v row)).
              let rows = same_row g mine.row e.1 in
              let shown = live_word g.generation (own_row_word v g.row) mine.live in
              absurd (apart (same_handle g h rows (sym shown.1 ∙ (ap (λ (n : ℕ). (own_row_word v n).generation) rows ∙ live.1)))))
              (λ e. owned_by g (other_word g.row e.1) mine)
              (eqb_tells (own_index v g.row) (own_index v row));
          still_past = λ g past. ⊎_elim
              (λ (e : _ × (own_index v g.row ≡ own_index v row)).
              let rows = same_row g past.row e.1 in
              let was : own_row_word v g.row ≡ own_row_word v h.row = ap (own_row_word v) rows in
              let now : (own_row_word w g.row).generation ≡ h.generation = ap (λ (n : ℕ). (own_row_word w n).generation) rows ∙ (ap (λ (y : HandleWord). y.generation) word ∙ generation) in
              record {
                row = own_on g.row past.row;
                gone = inl (earlier g.generation (own_row_word v g.row) past.gone (ap (λ (y : HandleWord). y.live) was ∙ live.0) (ap (λ (y : HandleWord). y.generation) was ∙ live.1) now);
              })
              (λ e. past_by g (other_word g.row e.1) past)
              (eqb_tells (own_index v g.row) (own_index v row));
        }
      where
        not_both : (b : Bool) → b ≡ true → b ≡ false → ⊥
        not_both b yes_ no_ = let clash = sym yes_ ∙ no_ in cc

        same_handle : (g k : Handle) → g.row ≡ k.row → g.generation ≡ k.generation → g ≡ k
        same_handle g k rows generations = λ i. record { row = rows i; generation = generations i }

        earlier : (g : ℕ) (y : HandleWord) {n m : ℕ} → (g < y.generation) ⊎ ((g ≡ y.generation) × (y.live ≡ false)) → y.live ≡ true → y.generation ≡ m → n ≡ m → g < n
        earlier g y (inl less) live is now = omega arith
        earlier g y (inr same) live is now = absurd (not_both y.live live same.1)
