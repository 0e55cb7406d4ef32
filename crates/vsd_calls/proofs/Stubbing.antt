-- The parts of a look at a cell.
use Rattle.std.proofs.Common.{◌≡◌, ℕ, true, false, Some, None, refl, sym, ap, subst}
use Rattle.vsd_words.specs.declared.handle.Handle.{Handle}
use Rattle.vsd_words.specs.declared.cell_word.CellWord.{CellWord}
use Rattle.vsd_words.specs.declared.cell_word.CellWord.TheVariants.{Lookup, Resolve, Dispatch}
use Rattle.vsd_rule.specs.declared.key.Key.{Key}
use Rattle.vsd_rule.specs.declared.step.Act.TheVariants.{LoadRow}
use Rattle.vsd_rule.specs.declared.step.RowWord.TheVariants.{Target}
use Rattle.vsd_rule.specs.declared.view.View.{View}
use Rattle.vsd_rule.specs.Lists.{site_token}
use Rattle.vsd_rule.specs.Evidence.{HasEvidence}
use Rattle.vsd_rule.specs.RowSteps.{nothing_known, with_handle, after_row_word}
use Rattle.vsd_table.specs.declared.seated.Seated.{Seated}
use Rattle.vsd_trails.specs.Programs.{Program, done, bind, when◌then◌else◌}
use Rattle.vsd_trails.specs.Words.{same_handle}
use Rattle.vsd_trails.specs.RowTrails.{reading, reading_handle, reading_target}
use Rattle.vsd_trails.specs.CallTrails.{Stubbed, stub_hit, stub_miss, patching, stubbing}
use Rattle.vsd_trails.proofs.Loads.{same_handle-true}
use Rattle.vsd_rows.specs.Makes.{Makes}
use Rattle.vsd_rows.specs.Hands.{HasSeen, after_handle}
use Rattle.vsd_rows.proofs.Makes.{joined, reads_as, when_true, when_false, makes_none}
use Rattle.vsd_rows.proofs.Protecting.{handle_seen, target_evidence}
use Rattle.vsd_rows.specs.Leaving.{Goes}
use Rattle.vsd_rows.proofs.Leaving.{goes_as}

module _ (k : Key) (site : ℕ) (h : Handle) where
  pub stubs_not : (s : Seated) (cell : CellWord) → ((row : ℕ) → cell ≡ Dispatch row → ⊥) → Makes s s (stubbing k site h cell) (stub_miss None)
  unfolding stubbing
  stubs_not s Lookup other = makes_none s (stub_miss None)
  stubs_not s Resolve other = makes_none s (stub_miss None)
  stubs_not s (Dispatch row) other = absurd (other row refl)

  abbrev by_handle : ℕ → Handle → Program Stubbed
  by_handle row g = when same_handle g h then reading (LoadRow row Target) stub_hit else bind (patching k site h row) (λ (u : Unit {0}). done (stub_miss (Some g)))

  pub stubs_hit : (row : ℕ) (old one new : Seated) (g : Handle) (target : ℕ) → Makes old one (reading_handle row) g → same_handle g h ≡ true → Makes one new (reading_target row) target
      → Makes old new (stubbing k site h (Dispatch row)) (stub_hit target)
  unfolding stubbing
  stubs_hit row old one new g target first same second =
      joined (by_handle row) first
      (when_true (same_handle g h) (reading (LoadRow row Target) stub_hit) (bind (patching k site h row) (λ (u : Unit {0}). done (stub_miss (Some g)))) same (reads_as (λ (word : ℕ). word) stub_hit second))

  pub stubs_miss : (row : ℕ) (old one new : Seated) (g : Handle) → Makes old one (reading_handle row) g → same_handle g h ≡ false → Makes one new (patching k site h row) tt
      → Makes old new (stubbing k site h (Dispatch row)) (stub_miss (Some g))
  unfolding stubbing
  stubs_miss row old one new g first other second =
      joined (by_handle row) first
      (when_false (same_handle g h) (reading (LoadRow row Target) stub_hit) (bind (patching k site h row) (λ (u : Unit {0}). done (stub_miss (Some g)))) other
      (joined (λ (u : Unit {0}). done (stub_miss (Some g))) second (makes_none new (stub_miss (Some g)))))

-- what was seen of the row once its handle was loaded
pub handle_known : (u v : View) (row site : ℕ) (g : Handle) → HasSeen u row (Some site) nothing_known → v ≡ after_handle u row g → HasSeen v row (Some site) (with_handle g nothing_known)
handle_known u v row site g named step = subst (λ (x : View). HasSeen x row (Some site) (with_handle g nothing_known)) (sym step) (handle_seen u row (Some site) nothing_known g named)

pub hit_told : (u v w : View) (row site token : ℕ) (g h : Handle) (target : ℕ) → HasSeen u row (Some site) nothing_known → v ≡ after_handle u row g → w ≡ after_row_word v row Target target
    → token ≡ site_token v.key site → same_handle g h ≡ true → HasEvidence w h token target
hit_told u v w row site token g h target named first second is same =
    let told = target_evidence v row (Some site) (with_handle g nothing_known) g token target (handle_known u v row site g named first) refl (ap Some (sym is)) in
    subst (λ (x : Handle). HasEvidence w x token target) (same_handle-true g h same) (subst (λ (x : View). HasEvidence x g token target) (sym second) told)

pub handle_goes : (v w : View) (row : ℕ) (g : Handle) → w ≡ after_handle v row g → Goes v w
handle_goes v w row g is = goes_as v w (after_handle v row g) is (record { pinned = refl; handles = refl })

pub target_goes : (v w : View) (row target : ℕ) → w ≡ after_row_word v row Target target → Goes v w
target_goes v w row target is = goes_as v w (after_row_word v row Target target) is (record { pinned = refl; handles = refl })
