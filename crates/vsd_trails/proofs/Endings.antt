-- How a call and an unload end: by the sweep of the oldest row in limbo.
use Rattle.std.proofs.Common.{◌≡◌, inl, inr, ℕ, zero, suc, ◌+◌, List, [], ◌∷◌, ◌++◌, append_assoc, append-nil, Result, refl, sym, ◌∙◌, ap, subst, ⊎_elim}
use Rattle.vsd_words.specs.declared.handle.Handle.{Handle}
use Rattle.vsd_rule.specs.declared.key.Key.{Key}
use Rattle.vsd_rule.specs.declared.row_view.RetiredRow.{RetiredRow}
use Rattle.vsd_rule.specs.declared.step.Act.{Act}
use Rattle.vsd_rule.specs.declared.step.Act.TheVariants.{Unpin, EpochOf, FreeSwept}
use Rattle.vsd_rule.specs.declared.step.Doing.TheVariants.{Call, Unload}
use Rattle.vsd_rule.specs.RowSteps.{is_clear}
use Rattle.vsd_trails.specs.declared.answers.Answer.{Answer}
use Rattle.vsd_trails.specs.declared.answers.Unloaded.{Unloaded}
use Rattle.vsd_trails.specs.declared.answers.Swept.{Swept}
use Rattle.vsd_trails.specs.Programs.{Fields, TrailStep, done, bind, after_act, after_step, after_steps, Runs}
use Rattle.vsd_trails.specs.RowTrails.{loading, making, pinning, unpinning, passing, sweeping_oldest, sweeping, reading_cell}
use Rattle.vsd_trails.specs.CallTrails.{answering, calling}
use Rattle.vsd_trails.specs.UnloadTrails.{unbinding, purging_cells, purging_buckets, unloading}
use Rattle.vsd_trails.specs.Attempts.{EndsSweep, SweepsAtEnd}
use Rattle.vsd_trails.proofs.Runs.{splits, after_steps-append}
use Rattle.vsd_trails.proofs.Loads.{one_load, nothing_run, branch}

-- a step of an act that leaves the fields
pub leaves_fields : (k : Key) (f : Fields) (x : TrailStep) (act : Act) → x.step.act ≡ act → after_act k f act x.step.found ≡ f → after_step k f x ≡ f
leaves_fields k f x act is same = ap (λ (a : Act). after_act k f a x.step.found) is ∙ same

-- the last step of a sweep
record Last (x : RetiredRow) (xs : List TrailStep) : Type 0 where
  prefix : List TrailStep
  last : TrailStep
  whole : xs ≡ prefix ++ last ∷ []
  ends : EndsSweep x last

module _ (k : Key) where
  passing_ends : (x : RetiredRow) (n caller : ℕ) (f : Fields) (xs : List TrailStep) (s : Swept) → Runs k f (passing x n caller) xs s → Last x xs
  unfolding passing
  passing_ends x zero caller f xs s runs =
      let a = splits k f (making (FreeSwept x.row)) _ xs s runs in
      let last = one_load k f (FreeSwept x.row) _ _ a.prefix a.answer tt a.first in
      let e = nothing_run k (after_steps k f a.prefix) a.rest _ s a.second in
      record { prefix = []; last = last.step; whole = a.whole ∙ (ap (λ (l : List TrailStep). a.prefix ++ l) e.0 ∙ (append-nil a.prefix ∙ last.is)); ends = inl last.act_is }
  passing_ends x (suc n) caller f xs s runs =
      let a = splits k f (loading (EpochOf caller)) _ xs s runs in
      let load = one_load k f (EpochOf caller) _ _ a.prefix a.answer tt a.first in
      let g = after_steps k f a.prefix in
      ⊎_elim
      (λ clear.
      let t = passing_ends x n (caller + 1) g a.rest s clear.1 in
      record { prefix = a.prefix ++ t.prefix; last = t.last; whole = a.whole ∙ (ap (λ (l : List TrailStep). a.prefix ++ l) t.whole ∙ sym (append_assoc a.prefix t.prefix (t.last ∷ []))); ends = t.ends })
      (λ blocked.
      let e = nothing_run k g a.rest _ s blocked.1 in
      record {
        prefix = [];
        last = load.step;
        whole = a.whole ∙ (ap (λ (l : List TrailStep). a.prefix ++ l) e.0 ∙ (append-nil a.prefix ∙ load.is));
        ends = inr (caller, load.act_is, ap (is_clear x.epoch) load.answer ∙ blocked.0);
      })
      (branch k g (is_clear x.epoch a.answer) _ _ a.rest s a.second)

  sweeping_ends : (f : Fields) (xs : List TrailStep) (s : Swept) → Runs k f (sweeping k) xs s → (x : RetiredRow) (others : List RetiredRow) → f.limbo ≡ x ∷ others → Last x xs
  unfolding sweeping
  sweeping_ends f xs s runs x others is = passing_ends x k.sizes.callers 0 f xs s (subst (λ (l : List RetiredRow). Runs k f (sweeping_oldest k l) xs s) is runs)

  -- unpin and sweep
  end_sweeps : {A : Type 0} (f : Fields) (a b : A) (xs : List TrailStep) → Runs k f (bind unpinning (λ u. bind (sweeping k) (λ swept. done a))) xs b → SweepsAtEnd k f xs
  end_sweeps f a b xs runs =
      let c = splits k f unpinning _ xs b runs in
      let unpin = one_load k f Unpin _ _ c.prefix c.answer tt c.first in
      let g = after_steps k f c.prefix in
      let d = splits k g (sweeping k) _ c.rest b c.second in
      let e = nothing_run k (after_steps k g d.prefix) d.rest a b d.second in
      let swept : c.rest ≡ d.prefix = d.whole ∙ (ap (λ (l : List TrailStep). d.prefix ++ l) e.0 ∙ append-nil d.prefix) in
      let same : g ≡ f = ap (after_steps k f) unpin.is ∙ leaves_fields k f unpin.step Unpin unpin.act_is refl in
      record {
        before = [];
        unpin = unpin.step;
        sweep = c.rest;
        whole = c.whole ∙ ap (λ (l : List TrailStep). l ++ c.rest) unpin.is;
        unpin_is = unpin.act_is;
        ends = λ x others is.
            let t = sweeping_ends g d.prefix d.answer d.first x others (ap (λ (h : Fields). h.limbo) same ∙ is) in
            (t.prefix, t.last, swept ∙ t.whole, t.ends);
      }

  after_front : (f : Fields) (prefix rest xs : List TrailStep) → xs ≡ prefix ++ rest → SweepsAtEnd k (after_steps k f prefix) rest → SweepsAtEnd k f xs
  after_front f prefix rest xs whole s = record {
    before = prefix ++ s.before;
    unpin = s.unpin;
    sweep = s.sweep;
    whole = whole ∙ (ap (λ (l : List TrailStep). prefix ++ l) s.whole ∙ sym (append_assoc prefix s.before (s.unpin ∷ s.sweep)));
    unpin_is = s.unpin_is;
    ends = λ x others is. s.ends x others (ap (λ (h : Fields). h.limbo) (sym (after_steps-append k f prefix s.before)) ∙ is);
  }

  pub call_sweeps : (site : ℕ) (h : Handle) (f : Fields) (trail : List TrailStep) (answer : Result Answer Unloaded) → Runs k f (calling k site h) trail answer → SweepsAtEnd k f trail
  unfolding calling
  call_sweeps site h f trail answer runs =
      let a = splits k f (pinning (Call site h)) _ trail answer runs in
      let f1 = after_steps k f a.prefix in
      let b = splits k f1 (reading_cell site) _ a.rest answer a.second in
      let f2 = after_steps k f1 b.prefix in
      let c = splits k f2 (answering k site h b.answer) _ b.rest answer b.second in
      let f3 = after_steps k f2 c.prefix in
      after_front f a.prefix a.rest trail a.whole (after_front f1 b.prefix b.rest a.rest b.whole (after_front f2 c.prefix c.rest b.rest c.whole (end_sweeps f3 c.answer answer c.rest c.second)))

  pub unload_sweeps : (h : Handle) (f : Fields) (trail : List TrailStep) (u : Unit {0}) → Runs k f (unloading k h) trail u → SweepsAtEnd k f trail
  unfolding unloading
  unload_sweeps h f trail u runs =
      let a = splits k f (pinning (Unload h)) _ trail u runs in
      let f1 = after_steps k f a.prefix in
      let b = splits k f1 (unbinding h) _ a.rest u a.second in
      let f2 = after_steps k f1 b.prefix in
      let c = splits k f2 (purging_cells h k.sizes.sites 0) _ b.rest u b.second in
      let f3 = after_steps k f2 c.prefix in
      let d = splits k f3 (purging_buckets h k.sizes.buckets 0) _ c.rest u c.second in
      let f4 = after_steps k f3 d.prefix in
      after_front f a.prefix a.rest trail a.whole (after_front f1 b.prefix b.rest a.rest b.whole (after_front f2 c.prefix c.rest b.rest c.whole (after_front f3 d.prefix d.rest c.rest d.whole
      (end_sweeps f4 tt u d.rest d.second))))
