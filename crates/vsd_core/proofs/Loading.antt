-- A load, whether it is answered or not.
use Rattle.std.proofs.Common.{◌≡◌, ◌+◌, ℕ, List, length, Result, Ok, Err, true, IfOk, OnErr, refl, ◌∙◌, ap, subst, sym}
use Rattle.vsd_words.specs.declared.handle.Handle.{Handle}
use Rattle.vsd_words.specs.declared.handle_word.HandleWord.{HandleWord}
use Rattle.vsd_rule.specs.declared.key.Key.{Key}
use Rattle.vsd_rule.specs.declared.view.View.{View}
use Rattle.vsd_rule.specs.Handles.{own_word}
use Rattle.vsd_rule.specs.Moves.{own_index}
use Rattle.vsd_rule.specs.Facts.{Knows}
use Rattle.vsd_table.specs.Seating.{view_of}
use Rattle.vsd_trails.specs.UnloadTrails.{binding}
use Rattle.vsd_trails.specs.Operations.{loaded}
use Rattle.vsd_rows.specs.declared.hand.Hand.{Hand}
use Rattle.vsd_rows.specs.Makes.{Makes}
use Rattle.vsd_rows.specs.Logged.{LogsOne}
use Rattle.vsd_handles.specs.declared.binding.HandlesFull.{HandlesFull}
use Rattle.vsd_handles.specs.Binding.{Binds}
use Rattle.vsd_handles.specs.OwnRows.{IsNext}
use Rattle.vsd_handles.specs.Owned.{AreWordsOf}
use Rattle.vsd_core.specs.Resting.{Rests}
use Rattle.vsd_core.specs.Owning.{KeepsHandles, live_in, loads_in}
use Rattle.vsd_core.proofs.Resting.{rests_one, logs_load}
use Rattle.vsd_core.proofs.Owning.{keeps_same, keeps_bound}
use Rattle.vsd_core.proofs.Counts.{counts_load, counts_same}

module _ (t : ℕ) (old new : Hand) (words : Type 0) where
  abbrev Unchanged : Result Handle HandlesFull → Type 0
  Unchanged r = OnErr r ((new ≡ old) × words)

  pub load_unpinned : (r : Result Handle HandlesFull) → IfOk r (Binds old.seated new.seated t) → Unchanged r → (view_of old.seated).rows.pinned ≡ 0 → (view_of new.seated).rows.pinned ≡ 0
  load_unpinned (Ok h) binds same is = ap (λ (v : View). v.rows.pinned) binds.view ∙ is
  load_unpinned (Err e) binds same is = ap (λ (x : Hand). (view_of x.seated).rows.pinned) same.0 ∙ is

  pub load_logs : (k : Key) (r : Result Handle HandlesFull) → (view_of old.seated).key ≡ k → IfOk r (λ h. Makes old.seated new.seated (binding h t) h) → IfOk r (λ h. LogsOne k old.seated new.seated (loaded t h) 1)
  load_logs k (Ok h) key makes = logs_load k h t old.seated new.seated key makes
  load_logs k (Err e) key makes = tt

  pub load_rests : (k : Key) (r : Result Handle HandlesFull) → (view_of old.seated).key ≡ k → IfOk r (λ h. Makes old.seated new.seated (binding h t) h) → IfOk r (λ h. Knows (view_of new.seated).handles h t) → Unchanged r → Rests old.seated → Rests new.seated
  load_rests k (Ok h) key makes known same rests =
      rests_one k old.seated new.seated (loaded t h) 1 key makes.stays (logs_load k h t old.seated new.seated key makes) known rests
  load_rests k (Err e) key makes known same rests = subst (λ (x : Hand). Rests x.seated) (sym same.0) rests

  pub load_keeps : (r : Result Handle HandlesFull) → IfOk r (IsNext (view_of old.seated)) → IfOk r (Binds old.seated new.seated t) → Unchanged r → KeepsHandles (view_of old.seated) (view_of new.seated)
  load_keeps (Ok h) next binds same =
      keeps_bound (view_of old.seated) (view_of new.seated) (ap (λ (v : View). v.key) binds.view) (ap (λ (v : View). v.who) binds.view) h.row (own_word h.generation t true)
      (ap (λ (v : View). v.handles.owned) binds.view) h refl next refl
  load_keeps (Err e) next binds same =
      let is : view_of new.seated ≡ view_of old.seated = ap (λ (x : Hand). view_of x.seated) same.0 in
      keeps_same (view_of old.seated) (view_of new.seated) (ap (λ (v : View). v.key) is) (ap (λ (v : View). v.who) is) (ap (λ (v : View). v.handles.owned) is)

pub load_counts : (t : ℕ) (old new : Hand) (o p : List HandleWord) (r : Result Handle HandlesFull) → IfOk r (Binds old.seated new.seated t) → OnErr r ((new ≡ old) × (p ≡ o)) → AreWordsOf o old → AreWordsOf p new → length o ≡ 64 → length p ≡ 64
load_counts t old new o p (Ok h) binds same before after long =
    counts_same o p (view_of old.seated) (view_of new.seated) (own_index (view_of old.seated) h.row) (own_word h.generation t true) before after (ap (λ (v : View). v.handles.owned) binds.view) long
load_counts t old new o p (Err e) binds same before after long = ap length same.1 ∙ long

pub load_raises : (t : ℕ) (old new : Hand) (r : Result Handle HandlesFull) → IfOk r (IsNext (view_of old.seated)) → IfOk r (Binds old.seated new.seated t)
    → IfOk r (λ h. (live_in (view_of new.seated).handles.owned ≡ live_in (view_of old.seated).handles.owned + 1) × (loads_in (view_of new.seated).handles.owned ≡ loads_in (view_of old.seated).handles.owned + 1))
load_raises t old new (Ok h) next binds = counts_load (view_of old.seated) (view_of new.seated) h t next (ap (λ (v : View). v.handles.owned) binds.view)
load_raises t old new (Err e) next binds = tt
