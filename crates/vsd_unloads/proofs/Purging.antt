-- What the trail of an unload tells: its entry in the log, and what it tried.
use Rattle.std.proofs.Common.{◌≡◌, ◌+◌, ◌*◌, List, [], ◌∷◌, refl, sym, ◌∙◌, ap, subst}
use Rattle.vsd_words.specs.declared.handle.Handle.{Handle}
use Rattle.vsd_rule.specs.declared.key.Key.{Key}
use Rattle.vsd_rule.specs.declared.step.Act.TheVariants.{Epoch, Pin, Unbind}
use Rattle.vsd_table.specs.declared.seated.Seated.{Seated}
use Rattle.vsd_table.specs.Seating.{view_of}
use Rattle.vsd_trails.specs.Programs.{Fields, TrailStep, Asked, bind, asked_act, Runs, onto}
use Rattle.vsd_trails.specs.RowTrails.{pinning}
use Rattle.vsd_trails.specs.UnloadTrails.{unloading}
use Rattle.vsd_trails.specs.Operations.{unloaded}
use Rattle.vsd_trails.specs.Laws.{HasLog}
use Rattle.vsd_trails.proofs.Runs.{is_bounded}
use Rattle.vsd_trails.proofs.Loads.{act_of}
use Rattle.vsd_trails.proofs.CallBounds.{at_unloading}
use Rattle.vsd_trails.proofs.Entries.{adds_unload}
use Rattle.vsd_trails.proofs.Purges.{unload_purges_cell, unload_purges_bucket}
use Rattle.vsd_trails.proofs.Endings.{unload_sweeps}
use Rattle.vsd_rows.specs.Makes.{steps_of, fields_of, Makes}
use Rattle.vsd_rows.specs.Logged.{LogsOne}
use Rattle.vsd_unloads.specs.Unloads.{StoresFirst, PurgesAll, SweepsOldest}

-- the first three steps of an unload
record FirstThree (h : Handle) (trail : List TrailStep) : Type 0 where
  epoch : TrailStep
  pin : TrailStep
  store : TrailStep
  rest : List TrailStep
  whole : trail ≡ epoch ∷ pin ∷ store ∷ rest
  epoch_is : epoch.step.act ≡ Epoch
  pin_is : pin.step.act ≡ Pin epoch.step.found
  store_is : asked_act store.step.act ≡ Unbind h.row h.generation 0

first_three : (k : Key) (h : Handle) (f : Fields) (trail : List TrailStep) → Runs k f (unloading k h) trail tt → FirstThree h trail
unfolding unloading pinning bind
first_three k h f [] runs = absurd runs
first_three k h f (x ∷ []) runs = absurd runs.2
first_three k h f (x ∷ y ∷ []) runs = absurd runs.2.2
first_three k h f (x ∷ y ∷ z ∷ rest) runs = record {
  epoch = x;
  pin = y;
  store = z;
  rest = rest;
  whole = refl;
  epoch_is = act_of x.step.act Epoch tt (ap (λ (c : Asked). c.act) runs.0);
  pin_is = act_of y.step.act (Pin x.step.found) tt (ap (λ (c : Asked). c.act) runs.2.0);
  store_is = ap (λ (c : Asked). c.act) runs.2.2.0;
}

module _ (k : Key) (h : Handle) (old new : Seated) (key : (view_of old).key ≡ k) (makes : Makes old new (unloading k h) tt) where
  runs : Runs k (fields_of old) (unloading k h) makes.trail tt
  runs = subst (λ (q : Key). Runs q (fields_of old) (unloading k h) makes.trail tt) key makes.runs

  pub logs_unload : LogsOne k old new (unloaded h) (5 + k.sizes.callers + 5 * (k.sizes.sites + k.sizes.buckets))
  logs_unload = record {
    trail = makes.trail;
    made = makes.made;
    few = is_bounded (5 + k.sizes.callers + 5 * (k.sizes.sites + k.sizes.buckets)) k (fields_of old) (unloading k h) makes.trail tt (at_unloading k h).few runs;
    logged = λ entries log. subst (λ (l : List TrailStep). HasLog k l (record { event = unloaded h; trail = makes.trail; fields = fields_of old } ∷ entries)) (sym makes.made)
        (adds_unload k h (fields_of old) makes.trail tt entries (steps_of old) log runs);
  }

  pub stores_first : StoresFirst h old new
  stores_first =
      let t = first_three k h (fields_of old) makes.trail runs in
      record {
        epoch = t.epoch;
        pin = t.pin;
        store = t.store;
        rest = t.rest;
        made = makes.made ∙ ap (λ (l : List TrailStep). onto l (steps_of old)) t.whole;
        epoch_is = t.epoch_is;
        pin_is = t.pin_is;
        store_is = t.store_is;
      }

  pub purges_all : PurgesAll k h old new
  purges_all = record {
    trail = makes.trail;
    made = makes.made;
    cells = λ site small. unload_purges_cell k h (fields_of old) makes.trail tt site small runs;
    buckets = λ bucket small. unload_purges_bucket k h (fields_of old) makes.trail tt bucket small runs;
  }

  pub sweeps_oldest : SweepsOldest k old new
  sweeps_oldest = record { trail = makes.trail; made = makes.made; ends = unload_sweeps k h (fields_of old) makes.trail tt runs }
