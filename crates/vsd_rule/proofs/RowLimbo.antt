-- Limbo: a row is retired, a sweep passes a caller, and the oldest row becomes free.
use Rattle.std.proofs.Common.{◌≡◌, ◌≢◌, ◌⊎◌, inl, inr, ⊎_elim, ℕ, suc, ◌+◌, ◌*◌, ◌<◌, ◌≤◌, Bool, true, false, cond, nat_eq, nat_le, ◌&&◌, ◌||◌, List, [], ◌∷◌, ◌++◌, length, get_or, set, ap, sym, refl, ◌∙◌, subst, arith, length-append, eqb-true, leb-true}
use mathlib.Core.Option.{some, some-injective}
use lib.ListN.{get_elem?}
use mathlib.Core.Logic.{dite}
use native.Mathlib.Decide.{ℕ_discrete}
use Rattle.atomic_table.proofs.Lists.{at_set}
use Rattle.vsd_rule.specs.declared.key.Key.{Key}
use Rattle.vsd_rule.specs.declared.row_view.Keeping.TheVariants.{Elsewhere, Unlinked, Retired}
use Rattle.vsd_rule.specs.declared.row_view.ProtectedRow.{ProtectedRow}
use Rattle.vsd_rule.specs.declared.row_view.RetiredRow.{RetiredRow}
use Rattle.vsd_rule.specs.declared.view.Who.{Who}
use Rattle.vsd_rule.specs.declared.view.Who.TheVariants.{Root, Caller}
use Rattle.vsd_rule.specs.Rows.{RowSeat, Rows, RowState, Content, free, kept, KeepsAsTold, IsRetired, WasPublished, Pins, keeping_of}
use Rattle.vsd_rule.specs.RowSteps.{retired, passed_before, is_clear, swept, freed, without_oldest}
use Rattle.vsd_rule.proofs.Splits.{at_end}
use Rattle.vsd_rule.proofs.RowFrames.{SeesRow, cells_of, buckets_of, limbo_state, protects_at, rows_after}
use Rattle.vsd_rule.proofs.RowMoves.{Moves, keeping_here, there_below, untouched_same, waits_still, rows_moved, keeper_moved, others_moved, mine_moved, cells_still, buckets_still}
use Rattle.vsd_rule.proofs.RowPins.{sweeps_by, seen_before}
use Rattle.vsd_rule.proofs.RowClaims.{reclaimed, untouched_by}

-- a caller with this epoch word is not pinned at the epoch or before
pub IsClear : ℕ → ℕ → Type 0
IsClear epoch word = (word ≡ 0) ⊎ (epoch + 2 ≤ word)

pub clear_is : (epoch word : ℕ) → is_clear epoch word ≡ true → IsClear epoch word
unfolding IsClear
clear_is epoch word is = go (nat_eq word 0) refl is
  where
    go : (b : Bool) → nat_eq word 0 ≡ b → (b || nat_le (epoch + 2) word) ≡ true → (word ≡ 0) ⊎ (epoch + 2 ≤ word)
    go true e all = inl (eqb-true word 0 e)
    go false e all = inr (leb-true (epoch + 2) word all)

-- a queue with one more at its end
module _ {A : Type 0} where
  pub at_front : (x : A) (xs ys : List A) (z : A) → get_elem? ((x ∷ xs) ++ ys) 0 ≡ some z → get_elem? (x ∷ xs) 0 ≡ some z
  at_front x xs ys z is = is

module _ (k : Key) {gen : ℕ → ℕ} {name : ℕ → ℕ → ℕ} {epoch : ℕ} {pins cells words buckets : List ℕ} {seats : List RowSeat} (r : Rows k gen name epoch pins cells words buckets seats)
    (id : ℕ) (d : RowSeat) (at : get_elem? seats id ≡ some d) where
  -- ---- a row enters limbo at the present epoch

  module _ (row : ℕ) (small : row < k.sizes.rows) (mine : keeping_of row d.rows.kept ≡ Unlinked) (few : length d.rows.limbo < 16) where
    abbrev new : RetiredRow
    new = record { row = row; epoch = epoch }

    unlinked_is : r.state row ≡ kept id Unlinked
    unlinked_is = subst (KeepsAsTold id (r.state row)) mine ((r.each id d at).keepings row small)

    not_waiting : (i : ℕ) (x : RetiredRow) → get_elem? d.rows.limbo i ≡ some x → x.row ≢ row
    not_waiting i x is same = let a : r.state row ≡ kept id Unlinked = unlinked_is in let b : r.state row ≡ kept id (Retired x.epoch) = ap r.state (sym same) ∙ limbo_state k r id i d x at is in absurd (cc)

    retire_moves : Moves k r id row (kept id (Retired epoch)) (r.content row)
    retire_moves = let is : r.state row ≡ kept id Unlinked = unlinked_is in record {
      small = small;
      from = λ seat keeping apart e. apart (let same : id ≡ seat = cc in sym same);
      to = λ seat keeping apart e. apart (let same : id ≡ seat = cc in sym same);
      owed = λ seat e there pinned s. (tt, refl, (λ other since (stands : kept id (Retired epoch) ≡ kept other (Retired since)). let p = (r.each seat e there).pinned in let q : epoch ≡ since = cc in omega arith));
    }

    queue_is : (i : ℕ) (x : RetiredRow) → get_elem? (d.rows.limbo ++ new ∷ []) i ≡ some x → IsRetired k epoch (record { row = row; keeping = Retired epoch } ∷ d.rows.kept) x
    queue_is i x is = ⊎_elim
        (λ (old : get_elem? d.rows.limbo i ≡ some x). waits_still k d.rows.kept row (Retired epoch) x (omega arith) (not_waiting i x old) ((r.each id d at).limbo i x old))
        (λ (t : (i ≡ length d.rows.limbo) × (new ≡ x)). subst (IsRetired k epoch (record { row = row; keeping = Retired epoch } ∷ d.rows.kept)) t.1
        (record { row = small; keeping = keeping_here row (Retired epoch) d.rows.kept; since = omega arith }))
        (at_end d.rows.limbo new x i is)

    queue_once : (i j : ℕ) (x y : RetiredRow) → get_elem? (d.rows.limbo ++ new ∷ []) i ≡ some x → get_elem? (d.rows.limbo ++ new ∷ []) j ≡ some y → x.row ≡ y.row → i ≡ j
    queue_once i j x y is js same = ⊎_elim
        (λ (a : get_elem? d.rows.limbo i ≡ some x). ⊎_elim
        (λ (b : get_elem? d.rows.limbo j ≡ some y). (r.each id d at).once i j x y a b same)
        (λ (b : (j ≡ length d.rows.limbo) × (new ≡ y)). absurd (not_waiting i x a (same ∙ ap (λ (z : RetiredRow). z.row) (sym b.1))))
        (at_end d.rows.limbo new y j js))
        (λ (a : (i ≡ length d.rows.limbo) × (new ≡ x)). ⊎_elim
        (λ (b : get_elem? d.rows.limbo j ≡ some y). absurd (not_waiting j y b (sym same ∙ ap (λ (z : RetiredRow). z.row) (sym a.1))))
        (λ (b : (j ≡ length d.rows.limbo) × (new ≡ y)). a.0 ∙ sym b.0)
        (at_end d.rows.limbo new y j js))
        (at_end d.rows.limbo new x i is)

    passed_small : passed_before d.rows.limbo d.rows.passed ≤ k.sizes.callers
    passed_small = go d.rows.limbo
      where
        go : (xs : List RetiredRow) → passed_before xs d.rows.passed ≤ k.sizes.callers
        go [] = omega arith
        go (x ∷ xs) = (r.each id d at).passed

    before : (number : ℕ) (x : RetiredRow) → number < passed_before d.rows.limbo d.rows.passed → get_elem? (d.rows.limbo ++ new ∷ []) 0 ≡ some x → (number < d.rows.passed) × (get_elem? d.rows.limbo 0 ≡ some x)
    before number x = go d.rows.limbo
      where
        go : (xs : List RetiredRow) → number < passed_before xs d.rows.passed → get_elem? (xs ++ record { row = row; epoch = epoch } ∷ []) 0 ≡ some x → (number < d.rows.passed) × (get_elem? xs 0 ≡ some x)
        go [] below is = absurd (omega arith)
        go (y ∷ ys) below is = (below, is)

    pub retire_keeps : Rows k gen name epoch pins cells words buckets (set seats id (record { who = d.who; rows = retired d.rows row epoch }))
    retire_keeps =
        let q : RowState = kept id (Retired epoch) in
        let c : Content = r.content row in
        let m : Moves k r id row q c = retire_moves in
        let is : r.state row ≡ kept id Unlinked = unlinked_is in
        let old = r.row row small in
        let d' : RowSeat = record { who = d.who; rows = retired d.rows row epoch } in
        rows_after k r id d d' at (record {
          small = r.epoch_small;
          rows = rows_moved k r id row q c m words (λ other _ _. untouched_same words other) (record {
            unclaimed = λ e. absurd (cc);
            claimed = λ _. old.claimed (λ e. absurd (cc));
            handle = old.handle;
            token = old.token;
            target = old.target;
            handle_row = old.handle_row;
            old = old.old;
            token_fits = old.token_fits;
            target_fits = old.target_fits;
            agrees = λ _. old.agrees (subst WasPublished (sym is) tt);
          });
          keeper = keeper_moved k r id row q c m (there_below seats id d at);
          in_cells = cells_still k r id row q c m (λ site e. absurd (cc)) (λ site e. absurd (cc));
          in_buckets = buckets_still k r id row q c m (λ bucket e. absurd (cc)) (λ bucket e. absurd (cc));
          others = others_moved k r id row q c m;
          mine = mine_moved k r id row q c m d at (Retired epoch) (d.rows.limbo ++ new ∷ []) (passed_before d.rows.limbo d.rows.passed) refl (λ g e. absurd (cc)) queue_is queue_once
              (omega (arith, length-append d.rows.limbo (new ∷ []))) passed_small;
          sweeps = sweeps_by k r id d at d' refl before (seen_before k r id d at);
        })

  -- ---- a sweep that passes callers whose epoch words are clear

  abbrev passing : ℕ → RowSeat
  passing passed = record { who = d.who; rows = record d.rows { passed = passed } }

  -- a caller with a clear epoch word does not protect a row in limbo since the epoch
  cleared : (seat number i : ℕ) (e : RowSeat) (x : RetiredRow) (y : ProtectedRow) → get_elem? seats seat ≡ some e → e.who ≡ Caller number → IsClear x.epoch (get_or pins number 0)
      → get_elem? d.rows.limbo 0 ≡ some x → get_elem? e.rows.protected i ≡ some y → 0 < e.rows.pinned → y.row ≢ x.row
  unfolding IsClear
  cleared seat number i e x y there who clear oldest is pinned same =
      let t = r.each seat e there in
      let p = protects_at k r.state r.content e.rows.pinned e.rows.protected (t.protects pinned) i y is in
      let word : get_or pins number 0 ≡ e.rows.pinned = subst (λ (w : Who). Pins k pins w e.rows.pinned) who t.pin in
      let before : e.rows.pinned ≤ x.epoch + 1 = p.before id x.epoch (ap r.state same ∙ limbo_state k r id 0 d x at oldest) in
      ⊎_elim (λ (none : get_or pins number 0 ≡ 0). omega arith) (λ (later : x.epoch + 2 ≤ get_or pins number 0). omega arith) clear

  pub passes_keep : (passed : ℕ) → passed ≤ k.sizes.callers
      → ((number : ℕ) (x : RetiredRow) → get_elem? d.rows.limbo 0 ≡ some x → number < passed → (number < d.rows.passed) ⊎ IsClear x.epoch (get_or pins number 0))
      → Rows k gen name epoch pins cells words buckets (set seats id (passing passed))
  passes_keep passed small below = let t = r.each id d at in rows_after k r id d (passing passed) at (record {
    small = r.epoch_small;
    rows = r.row;
    keeper = r.keeper;
    in_cells = cells_of k r;
    in_buckets = buckets_of k r;
    others = λ seat e other there. r.each seat e there;
    mine = record {
      pin = t.pin;
      pinned = t.pinned;
      loaded = t.loaded;
      cursor = t.cursor;
      keepings = t.keepings;
      stored = t.stored;
      limbo = t.limbo;
      once = t.once;
      room = t.room;
      passed = small;
      protects = t.protects;
      evidences = t.evidences;
    };
    sweeps = record {
      who = refl;
      protected = seen_before k r id d at;
      mine = λ other number i e x y over who less oldest is pinned. ⊎_elim
          (λ (old : number < d.rows.passed). ⊎_elim
          (λ (u : (other ≡ id) × (passing passed ≡ e)). let back = sym u.1 in r.swept id id number i d d x y at at (subst (λ (q : RowSeat). q.who ≡ Caller number) back who) old oldest
          (subst (λ (q : RowSeat). get_elem? q.rows.protected i ≡ some y) back is) (subst (λ (q : RowSeat). 0 < q.rows.pinned) back pinned))
          (λ (u : (other ≢ id) × (get_elem? seats other ≡ some e)). r.swept id other number i d e x y at u.1 who old oldest is pinned)
          (at_set seats id other (passing passed) e over))
          (λ (clear : IsClear x.epoch (get_or pins number 0)). ⊎_elim
          (λ (u : (other ≡ id) × (passing passed ≡ e)). let back = sym u.1 in cleared id number i d x y at (subst (λ (q : RowSeat). q.who ≡ Caller number) back who) clear oldest
          (subst (λ (q : RowSeat). get_elem? q.rows.protected i ≡ some y) back is) (subst (λ (q : RowSeat). 0 < q.rows.pinned) back pinned))
          (λ (u : (other ≢ id) × (get_elem? seats other ≡ some e)). cleared other number i e x y u.1 who clear oldest is pinned)
          (at_set seats id other (passing passed) e over))
          (below number x oldest less);
    };
  })

  -- the load of a caller's epoch word
  pub epoch_of_keeps : (caller word : ℕ) → caller < k.sizes.callers → word ≡ get_or pins caller 0
      → Rows k gen name epoch pins cells words buckets (set seats id (record { who = d.who; rows = swept d.rows d.rows.limbo caller word }))
  epoch_of_keeps caller word small found = go d.rows.limbo refl
    where
      old : d.rows.passed ≤ k.sizes.callers
      old = (r.each id d at).passed

      clear_now : (x : RetiredRow) (number : ℕ) → number ≡ caller → is_clear x.epoch word ≡ true → IsClear x.epoch (get_or pins number 0)
      clear_now x number same clear = subst (λ (n : ℕ). IsClear x.epoch (get_or pins n 0)) (sym same) (subst (IsClear x.epoch) found (clear_is x.epoch word clear))

      same_oldest : (x y : RetiredRow) (xs : List RetiredRow) → d.rows.limbo ≡ x ∷ xs → get_elem? d.rows.limbo 0 ≡ some y → x ≡ y
      same_oldest x y xs queue is = some-injective x y (subst (λ (zs : List RetiredRow). get_elem? zs 0 ≡ some y) queue is)

      pick : (x : RetiredRow) (xs : List RetiredRow) → d.rows.limbo ≡ x ∷ xs → (first clear next : Bool) → nat_eq caller 0 ≡ first → is_clear x.epoch word ≡ clear → nat_eq caller d.rows.passed ≡ next
          → Rows k gen name epoch pins cells words buckets (set seats id (passing (cond first (cond clear 1 0) (cond (next && clear) (d.rows.passed + 1) d.rows.passed))))
      pick x xs queue true true next a b c = let zero_is : caller ≡ 0 = eqb-true caller 0 a in passes_keep 1 (omega arith)
          (λ number y is less. inr (subst (λ (z : RetiredRow). IsClear z.epoch (get_or pins number 0)) (same_oldest x y xs queue is) (clear_now x number (omega arith) b)))
      pick x xs queue true false next a b c = passes_keep 0 (omega arith) (λ number y is less. absurd (omega arith))
      pick x xs queue false true true a b c = let is_next : caller ≡ d.rows.passed = eqb-true caller d.rows.passed c in passes_keep (d.rows.passed + 1) (omega arith)
          (λ number y is less. dite (ℕ_discrete number caller)
          (λ e. inr (subst (λ (z : RetiredRow). IsClear z.epoch (get_or pins number 0)) (same_oldest x y xs queue is) (clear_now x number e b)))
          (λ ne. inl (omega arith)))
      pick x xs queue false true false a b c = passes_keep d.rows.passed old (λ number y is less. inl less)
      pick x xs queue false false true a b c = passes_keep d.rows.passed old (λ number y is less. inl less)
      pick x xs queue false false false a b c = passes_keep d.rows.passed old (λ number y is less. inl less)

      go : (xs : List RetiredRow) → d.rows.limbo ≡ xs → Rows k gen name epoch pins cells words buckets (set seats id (record { who = d.who; rows = swept d.rows xs caller word }))
      go [] queue = passes_keep d.rows.passed old (λ number y is less. inl less)
      go (x ∷ xs) queue = pick x xs queue (nat_eq caller 0) (is_clear x.epoch word) (nat_eq caller d.rows.passed) refl refl refl

  -- ---- the oldest row becomes free, once every caller was passed

  module _ (oldest : RetiredRow) (others : List RetiredRow) (queue : d.rows.limbo ≡ oldest ∷ others) (passed : d.rows.passed ≡ k.sizes.callers) (long : length words ≡ 4 * k.sizes.rows)
      (in_range : (seat number : ℕ) (e : RowSeat) → get_elem? seats seat ≡ some e → e.who ≡ Caller number → number < k.sizes.callers) where
    abbrev row : ℕ
    row = oldest.row

    first : get_elem? d.rows.limbo 0 ≡ some oldest
    first = ap (λ (xs : List RetiredRow). get_elem? xs 0) queue

    small : row < k.sizes.rows
    small = ((r.each id d at).limbo 0 oldest first).row

    retired_is : r.state row ≡ kept id (Retired oldest.epoch)
    retired_is = limbo_state k r id 0 d oldest at first

    -- nobody protects it
    nobody : (seat : ℕ) (e : RowSeat) → get_elem? seats seat ≡ some e → 0 < e.rows.pinned → SeesRow e.rows.protected row → ⊥
    nobody seat e there pinned s = go e.who refl
      where
        go : (w : Who) → e.who ≡ w → ⊥
        go (Root next) is = let p : e.rows.pinned ≡ 0 = (subst (λ (w : Who). Pins k pins w e.rows.pinned) is (r.each seat e there).pin).0 in omega arith
        go (Caller number) is = r.swept id seat number s.index d e oldest s.entry at there is (let b = in_range seat number e there is in omega arith) first s.there pinned s.same

    free_moves : Moves k r id row free (r.content row)
    free_moves = let is : r.state row ≡ kept id (Retired oldest.epoch) = retired_is in record {
      small = small;
      from = λ seat keeping apart e. apart (let same : id ≡ seat = cc in sym same);
      to = λ seat keeping apart e. absurd (cc);
      owed = λ seat e there pinned s. absurd (nobody seat e there pinned s);
    }

    later : (i : ℕ) (x : RetiredRow) → get_elem? others i ≡ some x → get_elem? d.rows.limbo (suc i) ≡ some x
    later i x is = ap (λ (xs : List RetiredRow). get_elem? xs (suc i)) queue ∙ is

    pub free_swept_keeps : Rows k gen name epoch pins cells (set words (4 * row) 0) buckets (set seats id (record { who = d.who; rows = freed d.rows row }))
    free_swept_keeps =
        let c : Content = r.content row in
        let m : Moves k r id row free c = free_moves in
        let is : r.state row ≡ kept id (Retired oldest.epoch) = retired_is in
        let t = r.each id d at in
        let rest : without_oldest d.rows.limbo ≡ others = ap without_oldest queue in
        let d' : RowSeat = record { who = d.who; rows = record d.rows { kept = record { row = row; keeping = Elsewhere } ∷ d.rows.kept; limbo = others; passed = 0 } } in
        let all : Rows k gen name epoch pins cells (set words (4 * row) 0) buckets (set seats id d') = rows_after k r id d d' at (record {
          small = r.epoch_small;
          rows = rows_moved k r id row free c m (set words (4 * row) 0) (λ other ne _. untouched_by words row (4 * row) 0 (omega arith) (omega arith) other ne)
              (reclaimed k r id d at row free 0 small long (λ _. refl) (λ not. absurd (not refl)) (λ (x : ⊥). absurd x));
          keeper = keeper_moved k r id row free c m (there_below seats id d at);
          in_cells = cells_still k r id row free c m (λ site e. absurd (cc)) (λ site e. absurd (cc));
          in_buckets = buckets_still k r id row free c m (λ bucket e. absurd (cc)) (λ bucket e. absurd (cc));
          others = others_moved k r id row free c m;
          mine = mine_moved k r id row free c m d at Elsewhere others 0 (λ keeping e. absurd (cc)) (λ g e. absurd (cc))
              (λ i x there. waits_still k d.rows.kept row Elsewhere x (omega arith)
              (λ same. absurd (let one = t.once (suc i) 0 x oldest (later i x there) first same in omega arith)) (t.limbo (suc i) x (later i x there)))
              (λ i j x y a b same. let e = t.once (suc i) (suc j) x y (later i x a) (later j y b) same in omega arith)
              (let n = t.room in let l : length d.rows.limbo ≡ suc (length others) = ap length queue in omega arith) (omega arith);
          sweeps = sweeps_by k r id d at d' refl (λ number x below _. absurd (omega arith)) (seen_before k r id d at);
        }) in
        subst (λ (xs : List RetiredRow). Rows k gen name epoch pins cells (set words (4 * row) 0) buckets
        (set seats id (record { who = d.who; rows = record d.rows { kept = record { row = row; keeping = Elsewhere } ∷ d.rows.kept; limbo = xs; passed = 0 } }))) (sym rest) all
