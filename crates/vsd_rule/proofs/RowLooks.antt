-- Loads of cells, of buckets and of a row's words: a seat comes to protect a row, or sees more of one that it protects.
use Rattle.std.proofs.Common.{◌≡◌, ◌≢◌, ◌⊎◌, inl, inr, ℕ, zero, suc, ◌+◌, ◌<◌, Bool, true, false, cond, nat_eq, List, [], ◌∷◌, ◌++◌, Option, Some, None, get_or, set, ap, sym, refl, ◌∙◌, subst, nat_lt, eqb-true, ltb-true}
use Rattle.std.specs.Prelude.{IfSome}
use mathlib.Core.Option.{some, some-injective, some-ne-none}
use lib.ListN.{get_elem?}
use Rattle.vsd_words.specs.declared.handle.Handle.{Handle}
use Rattle.vsd_words.specs.declared.cell_word.CellWord.TheVariants.{Dispatch}
use Rattle.vsd_rule.specs.declared.key.Key.{Key}
use Rattle.vsd_rule.specs.declared.row_view.Evidence.{Evidence}
use Rattle.vsd_rule.specs.declared.row_view.Keeping.TheVariants.{Retired}
use Rattle.vsd_rule.specs.declared.row_view.KnownWords.{KnownWords}
use Rattle.vsd_rule.specs.declared.row_view.ProtectedRow.{ProtectedRow}
use Rattle.vsd_rule.specs.Lists.{site_token}
use Rattle.vsd_rule.specs.Rows.{RowSeat, Rows, Content, in_cell, in_bucket, kept, Protects, TrueWords, WasPublished, Agrees, AreEvidences}
use Rattle.vsd_rule.specs.RowSteps.{nothing_known, with_handle, with_token, with_target, protected_of, seeing, token_or_site, evidence_by, evidence_of, protects_row, sees, sees_target}
use Rattle.vsd_rule.proofs.RowFrames.{SeesRow, cells_of, buckets_of, protects_at, protects_all, rows_after}
use Rattle.vsd_rule.proofs.RowPins.{sweeps_still, seen_before}

-- ---- the list of protected rows after a load: the latest entry of the row gains what was loaded

module _ (row : ℕ) (loaded : KnownWords → KnownWords) where
  -- what was there is there still, of the same row
  pub seen_back : (xs : List ProtectedRow) (i : ℕ) (y : ProtectedRow) → get_elem? (seeing row loaded xs) i ≡ some y → SeesRow xs y.row
  seen_back [] i y is = absurd (some-ne-none y (sym is))
  seen_back (x ∷ xs) i y is = go (λ j e. seen_back xs j y e) (nat_eq x.row row) i is
    where
      first : (z : ProtectedRow) → z.row ≡ x.row → some z ≡ some y → SeesRow (x ∷ xs) y.row
      first z same e = record { index = 0; entry = x; there = refl; same = sym same ∙ ap (λ (q : ProtectedRow). q.row) (some-injective z y e) }

      later : (j : ℕ) → get_elem? xs j ≡ some y → SeesRow (x ∷ xs) y.row
      later j e = record { index = suc j; entry = y; there = e; same = refl }

      go : ((j : ℕ) → get_elem? (seeing row loaded xs) j ≡ some y → SeesRow xs y.row) → (b : Bool) (j : ℕ)
          → get_elem? (cond b (record x { seen = loaded x.seen } ∷ xs) (x ∷ seeing row loaded xs)) j ≡ some y → SeesRow (x ∷ xs) y.row
      go others true zero e = first (record x { seen = loaded x.seen }) refl e
      go others true (suc j) e = later j e
      go others false zero e = first x refl e
      go others false (suc j) e = let s = others j e in record { index = suc s.index; entry = s.entry; there = s.there; same = s.same }

  -- what holds of each, and of the row with what was loaded, holds of each after it
  pub seen_all : (P : ProtectedRow → Type 0) (xs : List ProtectedRow) → ((i : ℕ) (x : ProtectedRow) → get_elem? xs i ≡ some x → P x)
      → ((x : ProtectedRow) → x.row ≡ row → P x → P (record x { seen = loaded x.seen })) → (i : ℕ) (y : ProtectedRow) → get_elem? (seeing row loaded xs) i ≡ some y → P y
  seen_all P [] each more i y is = absurd (some-ne-none y (sym is))
  seen_all P (x ∷ xs) each more i y is = go (λ j e. seen_all P xs (λ n z at. each (suc n) z at) more j y e) (nat_eq x.row row) refl i is
    where
      go : ((j : ℕ) → get_elem? (seeing row loaded xs) j ≡ some y → P y) → (b : Bool) → nat_eq x.row row ≡ b → (j : ℕ) → get_elem? (cond b (record x { seen = loaded x.seen } ∷ xs) (x ∷ seeing row loaded xs)) j ≡ some y → P y
      go others true same zero e = subst P (some-injective (record x { seen = loaded x.seen }) y e) (more x (eqb-true x.row row same) (each 0 x refl))
      go others true same (suc j) e = each (suc j) y e
      go others false apart zero e = subst P (some-injective x y e) (each 0 x refl)
      go others false apart (suc j) e = others j e

-- the latest entry of a row is one of the list
pub protected_there : (row : ℕ) (xs : List ProtectedRow) (x : ProtectedRow) → protected_of row xs ≡ Some x → (i : ℕ) × (get_elem? xs i ≡ some x) × (x.row ≡ row)
protected_there row [] x is = absurd (cc)
protected_there row (y ∷ ys) x is = go (protected_there row ys x) (nat_eq y.row row) refl is
  where
    go : (protected_of row ys ≡ Some x → (i : ℕ) × (get_elem? ys i ≡ some x) × (x.row ≡ row)) → (b : Bool) → nat_eq y.row row ≡ b → cond b (Some y) (protected_of row ys) ≡ Some x → (i : ℕ) × (get_elem? (y ∷ ys) i ≡ some x) × (x.row ≡ row)
    go others true same e = let is_x : y ≡ x = cc in (0, ap some is_x, ap (λ (q : ProtectedRow). q.row) (sym is_x) ∙ eqb-true y.row row same)
    go others false apart e = let t = others e in (suc t.0, t.1, t.2)

pub evidences_more : (k : Key) (gen : ℕ → ℕ) (name : ℕ → ℕ → ℕ) (xs ys : List Evidence) → AreEvidences k gen name xs → AreEvidences k gen name ys → AreEvidences k gen name (xs ++ ys)
evidences_more k gen name [] ys all more = more
evidences_more k gen name (x ∷ xs) ys all more = (all.0, evidences_more k gen name xs ys all.1 more)

module _ (k : Key) {gen : ℕ → ℕ} {name : ℕ → ℕ → ℕ} where
  module _ {epoch : ℕ} {pins cells words buckets : List ℕ} {seats : List RowSeat} (r : Rows k gen name epoch pins cells words buckets seats) (id : ℕ) (d : RowSeat) (at : get_elem? seats id ≡ some d) where
    abbrev looking : List ProtectedRow → List Evidence → RowSeat
    looking protected evidences = record { who = d.who; rows = record d.rows { protected = protected; evidences = evidences } }

    -- other protected rows and other evidences, each of which is true
    looks_keep : (protected : List ProtectedRow) (evidences : List Evidence)
        → (0 < d.rows.pinned → (i : ℕ) (y : ProtectedRow) → get_elem? protected i ≡ some y → Protects k r.state r.content d.rows.pinned y)
        → ((i : ℕ) (y : ProtectedRow) → 0 < d.rows.pinned → get_elem? protected i ≡ some y
        → ((0 < d.rows.pinned) × SeesRow d.rows.protected y.row) ⊎ ((seat since : ℕ) → r.state y.row ≢ kept seat (Retired since)))
        → AreEvidences k gen name evidences → Rows k gen name epoch pins cells words buckets (set seats id (looking protected evidences))
    looks_keep protected evidences each seen agreed = let t = r.each id d at in rows_after k r id d (looking protected evidences) at (record {
      small = r.epoch_small;
      rows = r.row;
      keeper = r.keeper;
      in_cells = cells_of k r;
      in_buckets = buckets_of k r;
      others = λ seat e other there. r.each seat e there;
      mine = record {
        pin = t.pin;
        pinned = t.pinned;
        loaded = t.loaded;
        cursor = t.cursor;
        keepings = t.keepings;
        stored = t.stored;
        limbo = t.limbo;
        once = t.once;
        room = t.room;
        passed = t.passed;
        protects = λ pinned. protects_all k r.state r.content d.rows.pinned protected (each pinned);
        evidences = agreed;
      };
      sweeps = sweeps_still k r id d at (looking protected evidences) refl refl refl seen;
    })

    protected_now : 0 < d.rows.pinned → (i : ℕ) (y : ProtectedRow) → get_elem? d.rows.protected i ≡ some y → Protects k r.state r.content d.rows.pinned y
    protected_now pinned = protects_at k r.state r.content d.rows.pinned d.rows.protected ((r.each id d at).protects pinned)

    -- ---- a row that was loaded from a cell or a bucket is protected from now on

    found_keeps : (row : ℕ) (site : Option ℕ) → row < k.sizes.rows → WasPublished (r.state row) → ((seat since : ℕ) → r.state row ≢ kept seat (Retired since))
        → IfSome site (λ (s : ℕ). (r.content row).token ≡ site_token k s)
        → Rows k gen name epoch pins cells words buckets (set seats id (record { who = d.who; rows = protects_row d.rows row site }))
    found_keeps row site small published none of_site =
        let new : ProtectedRow = record { row = row; site = site; seen = nothing_known } in
        looks_keep (new ∷ d.rows.protected) d.rows.evidences (λ pinned. each pinned) seen (r.each id d at).evidences
      where
        each : 0 < d.rows.pinned → (i : ℕ) (y : ProtectedRow) → get_elem? (record { row = row; site = site; seen = nothing_known } ∷ d.rows.protected) i ≡ some y → Protects k r.state r.content d.rows.pinned y
        each pinned zero y is = subst (Protects k r.state r.content d.rows.pinned) (some-injective (record { row = row; site = site; seen = nothing_known }) y is) (record {
          row = small;
          published = published;
          seen = record { handle = tt; token = tt; target = tt };
          site = of_site;
          before = λ seat since e. absurd (none seat since e);
        })
        each pinned (suc i) y is = protected_now pinned i y is

        seen : (i : ℕ) (y : ProtectedRow) → 0 < d.rows.pinned → get_elem? (record { row = row; site = site; seen = nothing_known } ∷ d.rows.protected) i ≡ some y
            → ((0 < d.rows.pinned) × SeesRow d.rows.protected y.row) ⊎ ((seat since : ℕ) → r.state y.row ≢ kept seat (Retired since))
        seen zero y pinned is = inr (λ seat since e. none seat since (ap (λ (q : ProtectedRow). r.state q.row) (some-injective (record { row = row; site = site; seen = nothing_known }) y is) ∙ e))
        seen (suc i) y pinned is = seen_before k r id d at i y pinned is

    pub cell_keeps : (site row : ℕ) → site < k.sizes.sites → r.cell_word site ≡ Dispatch row
        → Rows k gen name epoch pins cells words buckets (set seats id (record { who = d.who; rows = protects_row d.rows row (Some site) }))
    cell_keeps site row small is =
        let n = r.cell_names site row small is in
        let there : r.state row ≡ in_cell site = n.1 in
        found_keeps row (Some site) n.0 (subst WasPublished (sym there) tt) (λ seat since e. absurd (cc)) (r.cell_named site row n.0 there).2

    pub bucket_keeps : (bucket row : ℕ) → bucket < k.sizes.buckets → get_or buckets bucket 0 ≡ row + 1
        → Rows k gen name epoch pins cells words buckets (set seats id (record { who = d.who; rows = protects_row d.rows row None }))
    bucket_keeps bucket row small is =
        let n = r.bucket_names bucket row small is in
        let there : r.state row ≡ in_bucket bucket = n.1 in
        found_keeps row None n.0 (subst WasPublished (sym there) tt) (λ seat since e. absurd (cc)) tt

    -- ---- more is seen of a protected row

    module _ (row : ℕ) (loaded : KnownWords → KnownWords) (true_words : (z : KnownWords) → TrueWords z (r.content row) → TrueWords (loaded z) (r.content row)) where
      sees_keep : (evidences : List Evidence) → AreEvidences k gen name evidences → Rows k gen name epoch pins cells words buckets (set seats id (looking (seeing row loaded d.rows.protected) evidences))
      sees_keep evidences agreed = looks_keep (seeing row loaded d.rows.protected) evidences
          (λ pinned. seen_all row loaded (Protects k r.state r.content d.rows.pinned) d.rows.protected (protected_now pinned) (λ x same p. record {
            row = p.row;
            published = p.published;
            seen = subst (λ (n : ℕ). TrueWords (loaded x.seen) (r.content n)) (sym same) (true_words x.seen (subst (λ (n : ℕ). TrueWords x.seen (r.content n)) same p.seen));
            site = p.site;
            before = p.before;
          }))
          (λ i y pinned is. inl (pinned, seen_back row loaded d.rows.protected i y is)) agreed

      pub seeing_keeps : Rows k gen name epoch pins cells words buckets (set seats id (record { who = d.who; rows = sees d.rows row loaded }))
      seeing_keeps = go (nat_lt 0 d.rows.pinned)
        where
          go : (b : Bool) → Rows k gen name epoch pins cells words buckets (set seats id (looking (cond b (seeing row loaded d.rows.protected) d.rows.protected) d.rows.evidences))
          go true = sees_keep d.rows.evidences (r.each id d at).evidences
          go false = looks_keep d.rows.protected d.rows.evidences protected_now (seen_before k r id d at) (r.each id d at).evidences

    pub handle_seen : (row : ℕ) (h : Handle) → h ≡ (r.content row).handle → Rows k gen name epoch pins cells words buckets (set seats id (record { who = d.who; rows = sees d.rows row (with_handle h) }))
    handle_seen row h is = seeing_keeps row (with_handle h) (λ z t. record { handle = is; token = t.token; target = t.target })

    pub token_seen : (row token : ℕ) → token ≡ (r.content row).token → Rows k gen name epoch pins cells words buckets (set seats id (record { who = d.who; rows = sees d.rows row (with_token token) }))
    token_seen row token is = seeing_keeps row (with_token token) (λ z t. record { handle = t.handle; token = is; target = t.target })

    -- the target of a protected row is an evidence, where its handle and token were seen
    module _ (row target : ℕ) (is : target ≡ (r.content row).target) where
      agree : (x : ProtectedRow) → x.row ≡ row → Protects k r.state r.content d.rows.pinned x → (h : Handle) → x.seen.handle ≡ Some h → (token : ℕ) → token ≡ (r.content x.row).token → Agrees k gen name h token target
      agree x same p h a token b =
          let is_handle : h ≡ (r.content x.row).handle = subst (λ (o : Option Handle). IfSome o (λ (g : Handle). g ≡ (r.content x.row).handle)) a p.seen.handle in
          let is_target : target ≡ (r.content x.row).target = is ∙ ap (λ (n : ℕ). (r.content n).target) (sym same) in
          subst (λ (c : Content). Agrees k gen name c.handle c.token c.target) (λ i. record { handle = sym is_handle i; token = sym b i; target = sym is_target i }) ((r.row x.row p.row).agrees p.published)

      by_protected : (x : ProtectedRow) → x.row ≡ row → Protects k r.state r.content d.rows.pinned x → (h : Option Handle) → x.seen.handle ≡ h → (token site : Option ℕ) → x.seen.token ≡ token → x.site ≡ site
          → AreEvidences k gen name (evidence_by h (token_or_site k token site) target)
      by_protected x same p None a token site b c = tt
      by_protected x same p (Some h) a None None b c = tt
      by_protected x same p (Some h) a (Some token) site b c = (agree x same p h a token (subst (λ (o : Option ℕ). IfSome o (λ (t : ℕ). t ≡ (r.content x.row).token)) b p.seen.token), tt)
      by_protected x same p (Some h) a None (Some site) b c = (agree x same p h a (site_token k site) (sym (subst (λ (o : Option ℕ). IfSome o (λ (s : ℕ). (r.content x.row).token ≡ site_token k s)) c p.site)), tt)

      pub target_evidence : 0 < d.rows.pinned → AreEvidences k gen name (evidence_of k (protected_of row d.rows.protected) target)
      target_evidence pinned = go (protected_of row d.rows.protected) refl
        where
          go : (o : Option ProtectedRow) → protected_of row d.rows.protected ≡ o → AreEvidences k gen name (evidence_of k o target)
          go None e = tt
          go (Some x) e = let t = protected_there row d.rows.protected x e in by_protected x t.2 (protected_now pinned t.0 x t.1) x.seen.handle refl x.seen.token x.site refl refl

      pub target_seen : Rows k gen name epoch pins cells words buckets (set seats id (record { who = d.who; rows = sees_target k d.rows row target }))
      target_seen = go (nat_lt 0 d.rows.pinned) refl
        where
          go : (b : Bool) → nat_lt 0 d.rows.pinned ≡ b
              → Rows k gen name epoch pins cells words buckets (set seats id (looking (cond b (seeing row (with_target target) d.rows.protected) d.rows.protected) (cond b (evidence_of k (protected_of row d.rows.protected) target) [] ++ d.rows.evidences)))
          go true pinned = sees_keep row (with_target target) (λ z t. record { handle = t.handle; token = t.token; target = is }) (evidence_of k (protected_of row d.rows.protected) target ++ d.rows.evidences)
              (evidences_more k gen name (evidence_of k (protected_of row d.rows.protected) target) d.rows.evidences (target_evidence (ltb-true 0 d.rows.pinned pinned)) (r.each id d at).evidences)
          go false unpinned = looks_keep d.rows.protected d.rows.evidences protected_now (seen_before k r id d at) (r.each id d at).evidences
