-- What each step on a row of one's own, and each load of a row's words, keeps of the whole rule.
use Rattle.std.proofs.Common.{◌≡◌, ◌≢◌, ℕ, ◌+◌, ◌*◌, ◌<◌, ◌≤◌, ◌^◌, Bool, cond, List, ⊎_elim, length, map, get_or, set, ap, sym, refl, ◌∙◌, subst, arith}
use Rattle.std.specs.Prelude.{IfSome, nat_eq}
use Rattle.std.proofs.lemmas.Bool.{cases_lt, lt-ltb, le-ltb}
use Rattle.std.proofs.Common.{ne_eqb}
use mathlib.Core.Option.{some}
use lib.ListN.{get_elem?}
use Rattle.vsd_words.specs.declared.handle.Handle.{Handle}
use Rattle.vsd_words.specs.Handle.{IsHandlePacking}
use Rattle.vsd_words.proofs.Packings.{handle_of_word, handle_packing-below, handle_packing-one_to_one}
use Rattle.vsd_rule.specs.declared.key.Key.{Key}
use Rattle.vsd_rule.specs.declared.row_view.KnownWords.{KnownWords}
use Rattle.vsd_rule.specs.declared.row_view.Keeping.{Keeping}
use Rattle.vsd_rule.specs.declared.row_view.Keeping.TheVariants.{Elsewhere, Private}
use Rattle.vsd_rule.specs.declared.row_view.RowView.{RowView}
use Rattle.vsd_rule.specs.declared.step.Act.{Act}
use Rattle.vsd_rule.specs.declared.step.Act.TheVariants.{Claim, LoadRow, SetHandle, SetToken, SetTarget, Free}
use Rattle.vsd_rule.specs.declared.step.RowWord.{RowWord}
use Rattle.vsd_rule.specs.declared.step.RowWord.TheVariants as word
use Rattle.vsd_rule.specs.declared.view.View.{View}
use Rattle.vsd_rule.specs.Layout.{row_word_at}
use Rattle.vsd_rule.specs.Lists.{target_of, site_token}
use Rattle.vsd_rule.specs.Zones.{Zones, zones}
use Rattle.vsd_rule.specs.Handles.{binding_for}
use Rattle.vsd_rule.specs.Rows.{Agrees, Rows, Row, RowState, free, in_cell, in_bucket, kept, Protects, TrueWords, WasPublished, keeping_of}
use Rattle.vsd_rule.specs.Rule.{Rule, handle_seat, row_seat}
use Rattle.vsd_rule.specs.Evidence.{HasEvidence, KnowsTarget, CallsAgree}
use Rattle.vsd_rule.specs.RowFacts.{RowWordInRange, SeenAgain, FindsAgain}
use Rattle.vsd_rule.specs.RowSteps.{offset_of, after_rows, keeps_row, claimed, after_claim, words_stored, stores_known, with_handle, with_token, with_target, after_set_handle, after_set_token, after_set_target, after_free, next_row, unpacked_handle, row_word_seen, after_row_word}
use Rattle.atomic_table.proofs.Lists.{at_map}
use Rattle.vsd_rule.proofs.Windows.{rows_length, row_at, row_written}
use Rattle.vsd_rule.proofs.Steps.{binding_of_known}
use Rattle.vsd_rule.proofs.Laws.{evidence_there}
use Rattle.vsd_rule.proofs.RowPins.{cursor_keeps}
use Rattle.vsd_rule.proofs.RowClaims.{claim_keeps, free_keeps, handle_keeps, token_keeps, target_keeps}
use Rattle.vsd_rule.proofs.RowLooks.{protected_there, handle_seen, token_seen, target_seen}
use Rattle.vsd_rule.proofs.RowFrames.{protects_at}
use Rattle.vsd_rule.proofs.Points.{if_some}
use Rattle.vsd_rule.proofs.RuleByRows as by

module _ (k : Key) (words : List ℕ) (views : List View) (r : Rule k words views) (id : ℕ) (v : View) (at : get_elem? views id ≡ some v) where
  abbrev z : Zones
  z = zones k.sizes words

  abbrev rows : Rows k r.whole.gen r.whole.name z.epoch z.pins z.cells z.rows z.buckets (map row_seat views)
  rows = r.whole.rows

  -- the evidence that a seat has agrees with what its handle is bound to
  pub evidence_agrees : (h : Handle) (token target : ℕ) → HasEvidence v h token target → Agrees k r.whole.gen r.whole.name h token target
  evidence_agrees h token target = ⊎_elim
      (λ (e : KnowsTarget v h token target).
      let mine = r.whole.handles.each id (handle_seat v) (at_map handle_seat views id v at) in
      let is = binding_of_known k r.whole.gen r.whole.name v.handles.bindings mine.bindings e.knows.0 (binding_for h e.number) e.knows.1 in
      let key = by.key_is k words views r id v at in
      record {
        bound = is.bound;
        token_in = subst (λ (q : Key). token < q.sizes.tokens) key e.token_in;
        answer = e.answer ∙ (λ c. target_of (key c) (is.number c) token);
      })
      (λ (e : (i : ℕ) × (get_elem? v.rows.evidences i ≡ some _)). evidence_there k r.whole.gen r.whole.name v.rows.evidences (by.mine k words views r id v at).evidences e.0 _ e.1)

  pub calls_agree : CallsAgree v
  calls_agree h token target number evidence knows =
      let mine = r.whole.handles.each id (handle_seat v) (at_map handle_seat views id v at) in
      let is = binding_of_known k r.whole.gen r.whole.name v.handles.bindings mine.bindings knows.0 (binding_for h number) knows.1 in
      let key = by.key_is k words views r id v at in
      (evidence_agrees h token target evidence).answer ∙ (λ c. target_of (sym key c) (sym is.number c) token)

  -- a step that changes nothing that its seat knows
  pub nothing_keeps : (rows' : RowView) (act : Act) (found : ℕ) → rows' ≡ v.rows → Rule k words (set views id (after_rows v rows' act found))
  nothing_keeps rows' act found same = by.by_rows k words views r id v at rows' act found
      (subst (by.RowsAre k words views r id v at (by.row_zones z)) (sym same) (by.rows_still k words views r id v at))

  module _ (row : ℕ) (small : row < k.sizes.rows) where
    long : length z.rows ≡ 4 * k.sizes.rows
    long = rows_length k.sizes words r.sized

    word_at : (i : ℕ) → i < 4 → get_or z.rows (4 * row + i) 0 ≡ get_or words (row_word_at k.sizes row i) 0
    word_at i few = row_at k.sizes words (4 * row + i) (omega arith)

    -- a store of one of the row's words, or a won exchange of it
    by_row : (i x : ℕ) → i < 4 → (rows' : RowView) (act : Act) (found : ℕ) → by.RowsAre k words views r id v at (record (by.row_zones z) { rows = set z.rows (4 * row + i) x }) rows'
        → Rule k (set words (row_word_at k.sizes row i) x) (set views id (after_rows v rows' act found))
    by_row i x few rows' act found true_rows = by.by_write k words views r id v at (row_word_at k.sizes row i) x (record (by.row_zones z) { rows = set z.rows (4 * row + i) x }) rows' act found
        (row_written k.sizes words (4 * row + i) x (omega arith)) true_rows

    -- ---- a claim

    pub claim_won : get_or words (row_word_at k.sizes row 0) 0 ≡ 0 → Rule k (set words (row_word_at k.sizes row 0) 1) (set views id (after_claim v row 0))
    claim_won found =
        let first : 4 * row + 0 ≡ 4 * row = omega arith in
        by_row 0 1 (omega arith) (claimed v.rows row) (Claim row) 0
        (subst (λ (i : ℕ). by.RowsAre k words views r id v at (record (by.row_zones z) { rows = set z.rows i 1 }) (claimed v.rows row)) (sym first)
        (claim_keeps k rows id (by.d k words views r id v at) (by.at_row_seat k words views r id v at) row small long (ap (λ (i : ℕ). get_or z.rows i 0) (sym first) ∙ (word_at 0 (omega arith) ∙ found))))

    pub claim_lost : (found : ℕ) → found ≢ 0 → Rule k words (set views id (after_claim v row found))
    claim_lost found other = nothing_keeps (cond (nat_eq found 0) (claimed v.rows row) v.rows) (Claim row) found (ap (λ (b : Bool). cond b (claimed v.rows row) v.rows) (ne_eqb found 0 other))

    -- ---- stores of the words of a private row

    module _ (f : KnownWords) (mine : keeping_of row v.rows.kept ≡ Private f) where
      private_now : (stored : KnownWords → KnownWords) → keeps_row v.rows row (Private (stored f)) ≡ stores_known v.rows row stored
      private_now stored = ap (λ (q : Keeping). keeps_row v.rows row (Private (stored (words_stored q)))) (sym mine)

      pub set_handle_keeps : (h : Handle) (x token target : ℕ) → IsHandlePacking h x → HasEvidence v h token target → Rule k (set words (row_word_at k.sizes row 1) x) (set views id (after_set_handle v row h))
      set_handle_keeps h x token target packing evidence = by_row 1 x (omega arith) (stores_known v.rows row (with_handle h)) (SetHandle row h) 0
          (subst (by.RowsAre k words views r id v at (record (by.row_zones z) { rows = set z.rows (4 * row + 1) x })) (private_now (with_handle h))
          (handle_keeps k rows id (by.d k words views r id v at) (by.at_row_seat k words views r id v at) row small f mine long h x packing (evidence_agrees h token target evidence).bound))

      pub set_token_keeps : (token : ℕ) → token < 2 ^ 16 → Rule k (set words (row_word_at k.sizes row 2) token) (set views id (after_set_token v row token))
      set_token_keeps token fits = by_row 2 token (omega arith) (stores_known v.rows row (with_token token)) (SetToken row token) 0
          (subst (by.RowsAre k words views r id v at (record (by.row_zones z) { rows = set z.rows (4 * row + 2) token })) (private_now (with_token token))
          (token_keeps k rows id (by.d k words views r id v at) (by.at_row_seat k words views r id v at) row small f mine long token fits))

      pub set_target_keeps : (target : ℕ) → target < 2 ^ 32 → Rule k (set words (row_word_at k.sizes row 3) target) (set views id (after_set_target v row target))
      set_target_keeps target fits = by_row 3 target (omega arith) (stores_known v.rows row (with_target target)) (SetTarget row target) 0
          (subst (by.RowsAre k words views r id v at (record (by.row_zones z) { rows = set z.rows (4 * row + 3) target })) (private_now (with_target target))
          (target_keeps k rows id (by.d k words views r id v at) (by.at_row_seat k words views r id v at) row small f mine long target fits))

      pub free_row_keeps : Rule k (set words (row_word_at k.sizes row 0) 0) (set views id (after_free v row))
      free_row_keeps =
          let first : 4 * row + 0 ≡ 4 * row = omega arith in
          by_row 0 0 (omega arith) (keeps_row v.rows row Elsewhere) (Free row) 0
          (subst (λ (i : ℕ). by.RowsAre k words views r id v at (record (by.row_zones z) { rows = set z.rows i 0 }) (keeps_row v.rows row Elsewhere)) (sym first)
          (free_keeps k rows id (by.d k words views r id v at) (by.at_row_seat k words views r id v at) row small f mine long))

    -- ---- loads of a row's words

    next_below : 0 < k.sizes.rows → next_row k row < k.sizes.rows
    next_below some_row = ⊎_elim
        (λ (h : row + 1 < k.sizes.rows). subst (λ (b : Bool). cond b (row + 1) 0 < k.sizes.rows) (sym (lt-ltb (row + 1) k.sizes.rows h)) h)
        (λ (h : k.sizes.rows ≤ row + 1). subst (λ (b : Bool). cond b (row + 1) 0 < k.sizes.rows) (sym (le-ltb (row + 1) k.sizes.rows h)) some_row)
        (cases_lt (row + 1) k.sizes.rows)

    abbrev here : Row k r.whole.gen r.whole.name rows.state rows.content z.rows row
    here = rows.row row small

    -- the handle that the word packs is the row's
    handle_found : unpacked_handle (get_or words (row_word_at k.sizes row 1) 0) ≡ (rows.content row).handle
    handle_found =
        let n : ℕ = get_or words (row_word_at k.sizes row 1) 0 in
        let packing : IsHandlePacking (rows.content row).handle n = subst (IsHandlePacking (rows.content row).handle) (word_at 1 (omega arith)) here.handle in
        handle_packing-one_to_one n (unpacked_handle n) (rows.content row).handle (handle_of_word n (handle_packing-below n (rows.content row).handle packing)) packing

    seen_keeps : (which : RowWord) (i : ℕ) → i ≡ offset_of which → by.RowsAre k words views r id v at (by.row_zones z) (row_word_seen k v.rows row which (get_or words (row_word_at k.sizes row i) 0))
    seen_keeps word.Claim i is = cursor_keeps k rows id (by.d k words views r id v at) (by.at_row_seat k words views r id v at) (next_row k row) next_below
    seen_keeps word.Handle i is = handle_seen k rows id (by.d k words views r id v at) (by.at_row_seat k words views r id v at) row (unpacked_handle (get_or words (row_word_at k.sizes row i) 0))
        (ap (λ (j : ℕ). unpacked_handle (get_or words (row_word_at k.sizes row j) 0)) is ∙ handle_found)
    seen_keeps word.Token i is = token_seen k rows id (by.d k words views r id v at) (by.at_row_seat k words views r id v at) row (get_or words (row_word_at k.sizes row i) 0)
        (ap (λ (j : ℕ). get_or words (row_word_at k.sizes row j) 0) is ∙ (sym (word_at 2 (omega arith)) ∙ here.token))
    seen_keeps word.Target i is = target_seen k rows id (by.d k words views r id v at) (by.at_row_seat k words views r id v at) row (get_or words (row_word_at k.sizes row i) 0)
        (ap (λ (j : ℕ). get_or words (row_word_at k.sizes row j) 0) is ∙ (sym (word_at 3 (omega arith)) ∙ here.target))

    claim_bit : get_or z.rows (4 * row) 0 < 2
    claim_bit = go (rows.state row) refl
      where
        go : (s : RowState) → rows.state row ≡ s → get_or z.rows (4 * row) 0 < 2
        go free is = let zero_word = here.unclaimed is in omega arith
        go (in_cell site) is = let one = here.claimed (λ e. absurd (cc)) in omega arith
        go (in_bucket bucket) is = let one = here.claimed (λ e. absurd (cc)) in omega arith
        go (kept seat keeping) is = let one = here.claimed (λ e. absurd (cc)) in omega arith

    first_word : get_or z.rows (4 * row) 0 ≡ get_or words (row_word_at k.sizes row 0) 0
    first_word = let first : 4 * row + 0 ≡ 4 * row = omega arith in ap (λ (i : ℕ). get_or z.rows i 0) (sym first) ∙ word_at 0 (omega arith)

    pub found_in_range : (which : RowWord) → RowWordInRange which (get_or words (row_word_at k.sizes row (offset_of which)) 0)
    found_in_range word.Claim = subst (λ (n : ℕ). n < 2) first_word claim_bit
    found_in_range word.Handle =
        let n : ℕ = get_or words (row_word_at k.sizes row 1) 0 in
        let packing : IsHandlePacking (rows.content row).handle n = subst (IsHandlePacking (rows.content row).handle) (word_at 1 (omega arith)) here.handle in
        handle_of_word n (handle_packing-below n (rows.content row).handle packing)
    found_in_range word.Token = subst (λ (n : ℕ). n < 2 ^ 16) (sym here.token ∙ word_at 2 (omega arith)) here.token_fits
    found_in_range word.Target = subst (λ (n : ℕ). n < 2 ^ 32) (sym here.target ∙ word_at 3 (omega arith)) here.target_fits

    pub found_again : (which : RowWord) → FindsAgain v row which (get_or words (row_word_at k.sizes row (offset_of which)) 0)
    found_again which pinned x is = go which
      where
        there : (i : ℕ) × (get_elem? v.rows.protected i ≡ some x) × (x.row ≡ row)
        there = protected_there row v.rows.protected x is

        p : Protects k rows.state rows.content v.rows.pinned x
        p = protects_at k rows.state rows.content v.rows.pinned v.rows.protected ((by.mine k words views r id v at).protects pinned) there.0 x there.1

        seen : TrueWords x.seen (rows.content row)
        seen = subst (λ (n : ℕ). TrueWords x.seen (rows.content n)) there.2 p.seen

        token_is : get_or words (row_word_at k.sizes row 2) 0 ≡ (rows.content row).token
        token_is = sym (word_at 2 (omega arith)) ∙ here.token

        target_is : get_or words (row_word_at k.sizes row 3) 0 ≡ (rows.content row).target
        target_is = sym (word_at 3 (omega arith)) ∙ here.target

        site_is : IfSome x.site (λ (s : ℕ). (rows.content row).token ≡ site_token v.key s)
        site_is = subst (λ (q : ℕ × Key). IfSome x.site (λ (s : ℕ). (rows.content q.0).token ≡ site_token q.1 s)) (λ c. (there.2 c, sym (by.key_is k words views r id v at) c)) p.site

        go : (which : RowWord) → SeenAgain v x which (get_or words (row_word_at k.sizes row (offset_of which)) 0)
        go word.Claim = sym first_word ∙ here.claimed (λ e. let shown : WasPublished (rows.state row) = subst (λ (n : ℕ). WasPublished (rows.state n)) there.2 p.published in subst WasPublished e shown)
        go word.Handle = if_some x.seen.handle (λ (h : Handle). h ≡ (rows.content row).handle) _ (λ h e. handle_found ∙ sym e) seen.handle
        go word.Token = (
          if_some x.seen.token (λ (t : ℕ). t ≡ (rows.content row).token) _ (λ t e. token_is ∙ sym e) seen.token,
          if_some x.site (λ (s : ℕ). (rows.content row).token ≡ site_token v.key s) _ (λ s e. token_is ∙ e) site_is,
        )
        go word.Target = if_some x.seen.target (λ (t : ℕ). t ≡ (rows.content row).target) _ (λ t e. target_is ∙ sym e) seen.target

    pub row_word_keeps : (which : RowWord) → Rule k words (set views id (after_row_word v row which (get_or words (row_word_at k.sizes row (offset_of which)) 0)))
    row_word_keeps which =
        let found : ℕ = get_or words (row_word_at k.sizes row (offset_of which)) 0 in
        by.by_rows k words views r id v at (row_word_seen v.key v.rows row which found) (LoadRow row which) found
        (subst (λ (q : Key). by.RowsAre k words views r id v at (by.row_zones z) (row_word_seen q v.rows row which found)) (sym (by.key_is k words views r id v at)) (seen_keeps which (offset_of which) refl))
