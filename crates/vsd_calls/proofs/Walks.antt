-- The parts of a walk.
use Rattle.std.proofs.Common.{refl, ◌≡◌, ◌≤◌, ◌-◌, ℕ, ◌+◌, Bool, true, IsOk, if◌then◌else◌, slice_index_or, inr, ◌*◌, ◌<◌, List, slice_index, Result, Ok, Err, inl, sym, ◌∙◌, ap, subst}
use Rattle.vsd_words.specs.declared.handle.Handle.{Handle}
use Rattle.vsd_words.specs.declared.cell_word.CellWord.{CellWord}
use Rattle.vsd_words.specs.declared.handle_word.HandleWord.{HandleWord}
use Rattle.vsd_rule.specs.declared.key.Key.{Key}
use Rattle.vsd_rule.specs.Layout.{first_row}
use Rattle.vsd_rule.specs.Seats.{caller_of, is_caller}
use Rattle.vsd_rule.specs.Handles.{host_word, blank_word}
use Rattle.vsd_rule.specs.Moves.{own_index}
use Rattle.vsd_trails.specs.Words.{is_live_at, type_by}
use Rattle.vsd_handles.specs.OwnRows.{own_row_word}
use Rattle.vsd_rule.specs.declared.view.View.{View}
use Rattle.vsd_rule.specs.Lists.{site_token, target_of}
use Rattle.vsd_rule.specs.Facts.{IsOwn, Knows}
use Rattle.vsd_rule.specs.Evidence.{HasEvidence}
use Rattle.vsd_table.specs.declared.seated.Seated.{Seated}
use Rattle.vsd_table.specs.Seating.{view_of}
use Rattle.vsd_trails.specs.declared.answers.Seen.{Seen}
use Rattle.vsd_trails.specs.declared.answers.Unloaded.{Unloaded}
use Rattle.vsd_trails.specs.RowTrails.{typing}
use Rattle.vsd_trails.specs.CallTrails.{by_walk, caching, installing, walking_by, walking}
use Rattle.vsd_rows.specs.Makes.{Makes}
use Rattle.vsd_rows.proofs.Makes.{joined, then_makes, makes_none}
use Rattle.vsd_handles.specs.Types.{LoadsType}
use Rattle.vsd_rows.specs.Leaving.{Goes, Stays}
use Rattle.vsd_handles.specs.OwnRows.{IsSure}

module _ (k : Key) (site : ℕ) (h : Handle) (cell : CellWord) (seen : Seen) where
  pub walks : (number token target : ℕ) (old one two new : Seated) → token ≡ site_token k site → target ≡ target_of k number token
      → Makes old one (typing h) (Ok number) → Makes one two (caching k token h target) tt → Makes two new (installing k site h cell target) tt
      → Makes old new (walking k site h cell seen) (by_walk target seen)
  unfolding walking walking_by
  walks number token target old one two new its_token its_target first second third =
      let same : target ≡ target_of k number (site_token k site) = its_target ∙ ap (target_of k number) its_token in
      let cached = subst (λ (t : ℕ). Makes one two (caching k t h (target_of k number (site_token k site))) tt) its_token (subst (λ (x : ℕ). Makes one two (caching k token h x) tt) same second) in
      let installed = subst (λ (x : ℕ). Makes two new (installing k site h cell x) tt) same third in
      subst (λ (x : ℕ). Makes old new (walking k site h cell seen) (by_walk x seen)) (sym same)
      (joined (walking_by k site h cell seen) first (then_makes cached (then_makes installed (makes_none new (by_walk (target_of k number (site_token k site)) seen)))))

  pub walks_not : (u : Unloaded) (old one : Seated) → Makes old one (typing h) (Err u) → Makes old one (walking k site h cell seen) (Err u)
  unfolding walking walking_by
  walks_not u old one first = joined (walking_by k site h cell seen) first (makes_none one (Err u))

-- the tables' answer is evidence for a type that the caller knows
pub asked_evidence : (v : View) (k : Key) (h : Handle) (number token target : ℕ) → v.key ≡ k → Knows v.handles h number → token < k.sizes.tokens → target ≡ target_of k number token → HasEvidence v h token target
asked_evidence v k h number token target key knows in_range is = inl (record {
  number = number;
  knows = knows;
  token_in = subst (λ (q : Key). token < q.sizes.tokens) (sym key) in_range;
  answer = subst (λ (q : Key). target ≡ target_of q number token) (sym key) is;
})

pub entry_is : (k : Key) (sel : List ℕ) (tokens number token target : ℕ) → k.world.sel ≡ sel → k.sizes.tokens ≡ tokens → target ≡ slice_index sel (number * tokens + token) → target ≡ target_of k number token
entry_is k sel tokens number token target same_sel same_tokens is =
    is ∙ (ap (λ (l : List ℕ). slice_index l (number * tokens + token)) (sym same_sel) ∙ ap (λ (n : ℕ). slice_index k.world.sel (number * n + token)) (sym same_tokens))

-- ---- what stays

pub type_stays : (old new : Seated) (h : Handle) (a : Result ℕ Unloaded) → LoadsType old new h a → Stays (view_of old) (view_of new)
type_stays old new h a loads = record { pinned = ap (λ (v : View). v.rows.pinned) loads.step.view; owned = ap (λ (v : View). v.handles.owned) loads.step.view }

pub stays_then : (u v w : View) → Stays u v → Goes v w → Stays u w
stays_then u v w first second = record { pinned = second.pinned ∙ first.pinned; owned = ap (λ n. n.owned) second.handles ∙ first.owned }

-- ---- a handle of a host, or one that the caller owns

type_ok : (h : Handle) (w : HandleWord) (r : Result ℕ Unloaded) → r ≡ type_by h w → is_live_at h.generation w ≡ true → IsOk r
type_ok h w r is live =
    let given : Bool → Result ℕ Unloaded = λ b. if b then Ok w.number else Err (record { handle = h; found = w }) in
    subst (λ (x : Result ℕ Unloaded). IsOk x) (sym is) (subst (λ (b : Bool). IsOk (given b)) (sym live) refl)

host_live : (k : Key) (h : Handle) → h.generation ≡ 1 → is_live_at h.generation (host_word k h.row) ≡ true
host_live k h is = ap (λ (n : ℕ). is_live_at n (host_word k h.row)) is

pub sure_ok : (v : View) (k : Key) (h : Handle) (r : Result ℕ Unloaded) → v.key ≡ k → (IsOwn v h.row → r ≡ type_by h (own_row_word v h.row)) → (h.row < k.sizes.hosts → r ≡ type_by h (host_word k h.row)) → IsSure v h → IsOk r
sure_ok v k h r key own host (inl hosted) = type_ok h (host_word k h.row) r (host (subst (λ (q : Key). h.row < q.sizes.hosts) key hosted.0)) (host_live k h hosted.1)
sure_ok v k h r key own host (inr owned) = type_ok h (own_row_word v h.row) r (own owned.row) owned.live

pub sure_on : (v w : View) (h : Handle) → w.key ≡ v.key → w.who ≡ v.who → w.handles.owned ≡ v.handles.owned → IsSure v h → IsSure w h
sure_on v w h key who words (inl hosted) = inl (subst (λ (q : Key). h.row < q.sizes.hosts) (sym key) hosted.0, hosted.1)
sure_on v w h key who words (inr owned) =
    let index : own_index w h.row ≡ own_index v h.row = λ i. h.row - first_row (key i).sizes (caller_of (who i)) in
    inr (record {
      row = record {
        caller = ap is_caller who ∙ owned.row.caller;
        from = subst (λ (n : ℕ). n ≤ h.row) (sym (λ i. first_row (key i).sizes (caller_of (who i)))) owned.row.from;
        to = subst (λ (n : ℕ). h.row < n + 64) (sym (λ i. first_row (key i).sizes (caller_of (who i)))) owned.row.to;
      };
      live = (λ i. is_live_at h.generation (slice_index_or (words i) (index i) blank_word)) ∙ owned.live;
    })

pub err_not_ok : (r : Result ℕ Unloaded) (u : Unloaded) → r ≡ Err u → IsOk r → ⊥
err_not_ok r u is ok = let clash = subst (λ (x : Result ℕ Unloaded). IsOk x) is ok in cc
