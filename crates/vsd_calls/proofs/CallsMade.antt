-- The parts of a call, put together.
use Rattle.std.proofs.Common.{◌≡◌, ℕ, ◌<◌, Option, Some, Result, Ok, Err, IfOk, refl, sym, ◌∙◌, ap, subst}
use Rattle.vsd_words.specs.declared.handle.Handle.{Handle}
use Rattle.vsd_words.specs.declared.cell_word.CellWord.{CellWord}
use Rattle.vsd_words.specs.declared.cell_word.CellWord.TheVariants.{Lookup, Resolve, Dispatch}
use Rattle.vsd_rule.specs.declared.key.Key.{Key}
use Rattle.vsd_rule.specs.declared.handle_view.HandleView.{HandleView}
use Rattle.vsd_rule.specs.declared.step.Doing.{Doing}
use Rattle.vsd_rule.specs.declared.step.Doing.TheVariants.{Call}
use Rattle.vsd_rule.specs.declared.view.View.{View}
use Rattle.vsd_rule.specs.Lists.{site_token, target_of}
use Rattle.vsd_rule.specs.Facts.{Knows}
use Rattle.vsd_rule.specs.Evidence.{HasEvidence, CallsAgree}
use Rattle.vsd_rule.specs.RowSteps.{nothing_known, after_cell}
use Rattle.vsd_table.specs.declared.seated.Seated.{Seated}
use Rattle.vsd_table.specs.Seating.{view_of}
use Rattle.vsd_trails.specs.declared.answers.Answer.{Answer}
use Rattle.vsd_trails.specs.declared.answers.Unloaded.{Unloaded}
use Rattle.vsd_trails.specs.declared.answers.Found.TheVariants.{Hit, Other, Empty}
use Rattle.vsd_trails.specs.declared.answers.Swept.{Swept}
use Rattle.vsd_trails.specs.declared.answers.Swept.TheVariants as swept
use Rattle.vsd_trails.specs.Programs.{Program, done, bind}
use Rattle.vsd_trails.specs.RowTrails.{pinning, unpinning, reading_cell, sweeping}
use Rattle.vsd_trails.specs.CallTrails.{stub_hit, stub_miss, by_stub, by_bucket, seen_by, finding, installing, walking, resolving_by, stubbing, answering_by, answering, calling}
use Rattle.vsd_rows.specs.Makes.{Makes}
use Rattle.vsd_rows.specs.Hands.{HasSeen, Sweeps, Pins}
use Rattle.vsd_rows.proofs.Makes.{joined, then_makes, makes_none}
use Rattle.vsd_rows.proofs.Protecting.{cell_seen_row}
use Rattle.vsd_rcache.specs.Finding.{Finds}
use Rattle.vsd_rows.specs.Leaving.{Goes, Stays}
use Rattle.vsd_calls.specs.Parts.{resolving}
use Rattle.vsd_rows.proofs.Leaving.{goes_as}

module _ (k : Key) (site : ℕ) (h : Handle) (cell : CellWord) where
  pub resolves_hit : (expected : Option Handle) (token target : ℕ) (old one new : Seated) → token ≡ site_token k site → Makes old one (finding k token h) (Hit target) → Makes one new (installing k site h cell target) tt
      → Makes old new (resolving k site h cell expected) (by_bucket target)
  unfolding resolving_by
  resolves_hit expected token target old one new is first second =
      joined (resolving_by k site h cell expected) (subst (λ (t : ℕ). Makes old one (finding k t h) (Hit target)) is first) (then_makes second (makes_none new (by_bucket target)))

  pub resolves_other : (expected : Option Handle) (token : ℕ) (g : Handle) (t : ℕ) (old one new : Seated) (a : Result Answer Unloaded) → token ≡ site_token k site → Makes old one (finding k token h) (Other g t)
      → Makes one new (walking k site h cell (seen_by cell expected (Other g t))) a → Makes old new (resolving k site h cell expected) a
  unfolding resolving_by
  resolves_other expected token g t old one new a is first second =
      joined (resolving_by k site h cell expected) (subst (λ (n : ℕ). Makes old one (finding k n h) (Other g t)) is first) second

  pub resolves_empty : (expected : Option Handle) (token : ℕ) (old one new : Seated) (a : Result Answer Unloaded) → token ≡ site_token k site → Makes old one (finding k token h) Empty
      → Makes one new (walking k site h cell (seen_by cell expected Empty)) a → Makes old new (resolving k site h cell expected) a
  unfolding resolving_by
  resolves_empty expected token old one new a is first second =
      joined (resolving_by k site h cell expected) (subst (λ (n : ℕ). Makes old one (finding k n h) Empty) is first) second

  pub answers_hit : (target : ℕ) (old new : Seated) → Makes old new (stubbing k site h cell) (stub_hit target) → Makes old new (answering k site h cell) (by_stub target)
  unfolding answering answering_by
  answers_hit target old new first = joined (answering_by k site h cell) first (makes_none new (by_stub target))

  pub answers_miss : (expected : Option Handle) (old one new : Seated) (a : Result Answer Unloaded) → Makes old one (stubbing k site h cell) (stub_miss expected) → Makes one new (resolving k site h cell expected) a
      → Makes old new (answering k site h cell) a
  unfolding answering answering_by
  answers_miss expected old one new a first second = joined (answering_by k site h cell) first second

module _ (k : Key) (site : ℕ) (h : Handle) where
  abbrev ends : Result Answer Unloaded → Program (Result Answer Unloaded)
  ends answer = bind unpinning (λ (u : Unit {0}). bind (sweeping k) (λ (s : Swept). done answer))

  abbrev from_cell : CellWord → Program (Result Answer Unloaded)
  from_cell cell = bind (answering k site h cell) ends

  pub calls : (old one two three four new : Seated) (cell : CellWord) (a : Result Answer Unloaded) (s : Swept) → Makes old one (pinning (Call site h)) tt → Makes one two (reading_cell site) cell
      → Makes two three (answering k site h cell) a → Makes three four unpinning tt → Makes four new (sweeping k) s → Makes old new (calling k site h) a
  unfolding calling
  calls old one two three four new cell a s pinned loaded answered unpinned swept =
      then_makes pinned (joined from_cell loaded (joined ends answered (then_makes unpinned (then_makes swept (makes_none new a)))))

-- ---- what stays

pub finds_go : (v w : View) → Finds v w → Goes v w
finds_go v w finds = record { pinned = ap (λ (x : View). x.rows.pinned) finds; handles = ap (λ (x : View). x.handles) finds }

pub goes_stays : (v w : View) → Goes v w → Stays v w
goes_stays v w goes = record { pinned = goes.pinned; owned = ap (λ n. n.owned) goes.handles }

pub stays_on : (u v w : View) → Stays u v → Stays v w → Stays u w
stays_on u v w first second = record { pinned = second.pinned ∙ first.pinned; owned = second.owned ∙ first.owned }

pub sweeps_go : (v w : View) (s : Swept) → Sweeps v w s → Goes v w
sweeps_go v w swept.Empty sweeps = record { pinned = ap (λ (x : View). x.rows.pinned) sweeps; handles = ap (λ (x : View). x.handles) sweeps }
sweeps_go v w (swept.Blocked caller epoch) sweeps = record { pinned = ap (λ (x : View). x.rows.pinned) sweeps; handles = ap (λ (x : View). x.handles) sweeps }
sweeps_go v w (swept.Freed row) sweeps = record { pinned = ap (λ (x : View). x.rows.pinned) sweeps; handles = ap (λ (x : View). x.handles) sweeps }

-- ---- the row that the cell named

pub cell_named : (v w : View) (site : ℕ) (cell : CellWord) (row : ℕ) → 0 < v.rows.pinned → w ≡ after_cell v site cell → cell ≡ Dispatch row → HasSeen w row (Some site) nothing_known
cell_named v w site cell row pinned step is =
    subst (λ (x : View). HasSeen x row (Some site) nothing_known) (sym (step ∙ ap (λ (c : CellWord). after_cell v site c) is)) (cell_seen_row v site row pinned)

-- ---- what the pin, the load of the cell and the unpin leave

pub reads_go : (v w : View) (site : ℕ) (cell : CellWord) → w ≡ after_cell v site cell → Goes v w
reads_go v w site Lookup is = goes_as v w (after_cell v site Lookup) is (record { pinned = refl; handles = refl })
reads_go v w site Resolve is = goes_as v w (after_cell v site Resolve) is (record { pinned = refl; handles = refl })
reads_go v w site (Dispatch row) is = goes_as v w (after_cell v site (Dispatch row)) is (record { pinned = refl; handles = refl })

pub pins_owned : (old new : Seated) (doing : Doing) → Pins old new doing → (view_of new).handles.owned ≡ (view_of old).handles.owned
pins_owned old new doing pins = ap (λ (v : View). v.handles.owned) pins.step.view

-- ---- what an answer tells, later on

pub told_on : (P Q : Answer → Type 0) (r : Result Answer Unloaded) → ((a : Answer) → P a → Q a) → IfOk r P → IfOk r Q
told_on P Q (Ok a) on told = on a told
told_on P Q (Err u) on told = tt

-- the evidence agrees with what is known, at the unpin and after the sweep
pub agrees_on : (k : Key) (v w : View) (h : Handle) (token target number : ℕ) → CallsAgree v → v.key ≡ k → Goes v w → HasEvidence v h token target → Knows w.handles h number → target ≡ target_of k number token
agrees_on k v w h token target number agree key goes evidence knows =
    subst (λ (q : Key). target ≡ target_of q number token) key
    (agree h token target number evidence (subst (λ (n : HandleView). Knows n h number) goes.handles knows))
