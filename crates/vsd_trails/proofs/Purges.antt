-- What an unload tries at each cell and at each bucket.
use Rattle.std.proofs.Common.{◌≡◌, ◌≢◌, ◌⊎◌, inl, inr, ℕ, zero, suc, ◌+◌, ◌<◌, ◌≤◌, Bool, true, false, ◌&&◌, List, [], ◌∷◌, ◌++◌, append_assoc, Option, Some, None, refl, sym, ◌∙◌, ap, subst, ⊎_elim, arith}
use Rattle.std.proofs.lemmas.Bool.{cases_lt}
use Rattle.vsd_words.specs.declared.handle.Handle.{Handle}
use Rattle.vsd_words.specs.declared.cell_word.CellWord.{CellWord}
use Rattle.vsd_words.specs.declared.cell_word.CellWord.TheVariants.{Lookup, Resolve, Dispatch}
use Rattle.vsd_rule.specs.declared.key.Key.{Key}
use Rattle.vsd_rule.specs.declared.step.Act.{Act}
use Rattle.vsd_rule.specs.declared.step.Act.TheVariants.{LoadRow, LoadCell, LoadBucket, ToLookup, EmptyBucket}
use Rattle.vsd_rule.specs.declared.step.RowWord.TheVariants as word
use Rattle.vsd_rule.specs.declared.step.Doing.TheVariants.{Unload}
use Rattle.vsd_rule.specs.RowSteps.{unpacked_handle}
use Rattle.vsd_trails.specs.Programs.{Fields, TrailStep, Program, bind, when◌then◌else◌, after_steps, Runs}
use Rattle.vsd_trails.specs.Words.{unpacked_cell, unpacked_bucket, same_handle}
use Rattle.vsd_trails.specs.RowTrails.{reading, pinning, has_room, seeing_room, unlinking, reading_cell, reading_handle, looking}
use Rattle.vsd_trails.specs.UnloadTrails.{unbinding, purging_cell, purging_bucket, purging_cells, purging_buckets, unloading}
use Rattle.vsd_trails.specs.Attempts.{RowPurged, CellPurged, BucketPurged, PurgesCell, PurgesBucket}
use Rattle.vsd_trails.proofs.Runs.{splits, after_steps-append}
use Rattle.vsd_trails.proofs.Loads.{IsNoUnbind, one_load, branch, same_handle-false}
use Rattle.vsd_trails.proofs.Endings.{leaves_fields}

and_false : (a b : Bool) → a && b ≡ false → (a ≡ false) ⊎ (b ≡ false)
and_false true b both = inr both
and_false false b both = inl refl

module _ (k : Key) (h : Handle) where
  -- ---- more steps after it

  row_more : (f : Fields) (row : ℕ) (out : Act) (more rest : List TrailStep) → RowPurged k f h row out more → RowPurged k f h row out (more ++ rest)
  row_more f row out [] rest p = absurd p
  row_more f row out (x ∷ more) rest p = (
    p.0,
    ⊎_elim (λ other. inl other) (λ others. inr (⊎_elim (λ full. inl full) (λ t. inr (t.0, t.1 ++ rest, ap (λ (l : List TrailStep). l ++ rest) t.2, t.3)) others)) p.1,
  )

  cell_more : (f : Fields) (site : ℕ) (cell : CellWord) (more rest : List TrailStep) → CellPurged k f h site cell more → CellPurged k f h site cell (more ++ rest)
  cell_more f site Lookup more rest p = tt
  cell_more f site Resolve more rest p = tt
  cell_more f site (Dispatch row) more rest p = row_more f row (ToLookup site row) more rest p

  bucket_more : (f : Fields) (bucket : ℕ) (named : Option ℕ) (more rest : List TrailStep) → BucketPurged k f h bucket named more → BucketPurged k f h bucket named (more ++ rest)
  bucket_more f bucket None more rest p = tt
  bucket_more f bucket (Some row) more rest p = row_more f row (EmptyBucket bucket) more rest p

  cell_front : (site : ℕ) (f : Fields) (prefix rest xs : List TrailStep) → xs ≡ prefix ++ rest → PurgesCell k h site f prefix → PurgesCell k h site f xs
  cell_front site f prefix rest xs whole p = record {
    before = p.before;
    load = p.load;
    more = p.more ++ rest;
    whole = whole ∙ (ap (λ (l : List TrailStep). l ++ rest) p.whole ∙ append_assoc p.before (p.load ∷ p.more) rest);
    load_is = p.load_is;
    purged = cell_more (after_steps k f p.before) site (unpacked_cell p.load.step.found) p.more rest p.purged;
  }

  cell_rest : (site : ℕ) (f : Fields) (prefix rest xs : List TrailStep) → xs ≡ prefix ++ rest → PurgesCell k h site (after_steps k f prefix) rest → PurgesCell k h site f xs
  cell_rest site f prefix rest xs whole p = record {
    before = prefix ++ p.before;
    load = p.load;
    more = p.more;
    whole = whole ∙ (ap (λ (l : List TrailStep). prefix ++ l) p.whole ∙ sym (append_assoc prefix p.before (p.load ∷ p.more)));
    load_is = p.load_is;
    purged = subst (λ (g : Fields). CellPurged k g h site (unpacked_cell p.load.step.found) p.more) (sym (after_steps-append k f prefix p.before)) p.purged;
  }

  bucket_front : (bucket : ℕ) (f : Fields) (prefix rest xs : List TrailStep) → xs ≡ prefix ++ rest → PurgesBucket k h bucket f prefix → PurgesBucket k h bucket f xs
  bucket_front bucket f prefix rest xs whole p = record {
    before = p.before;
    load = p.load;
    more = p.more ++ rest;
    whole = whole ∙ (ap (λ (l : List TrailStep). l ++ rest) p.whole ∙ append_assoc p.before (p.load ∷ p.more) rest);
    load_is = p.load_is;
    purged = bucket_more (after_steps k f p.before) bucket (unpacked_bucket p.load.step.found) p.more rest p.purged;
  }

  bucket_rest : (bucket : ℕ) (f : Fields) (prefix rest xs : List TrailStep) → xs ≡ prefix ++ rest → PurgesBucket k h bucket (after_steps k f prefix) rest → PurgesBucket k h bucket f xs
  bucket_rest bucket f prefix rest xs whole p = record {
    before = prefix ++ p.before;
    load = p.load;
    more = p.more;
    whole = whole ∙ (ap (λ (l : List TrailStep). prefix ++ l) p.whole ∙ sym (append_assoc prefix p.before (p.load ∷ p.more)));
    load_is = p.load_is;
    purged = subst (λ (g : Fields). BucketPurged k g h bucket (unpacked_bucket p.load.step.found) p.more) (sym (after_steps-append k f prefix p.before)) p.purged;
  }

  -- ---- one row

  -- after the load of the row's handle: where it is the one and limbo has room, the next step takes the row out
  taken_out : {A B : Type 0} (f : Fields) (x : Handle) (out : Act) (read : ℕ → A) (g : A → Program B) (otherwise : Program B) (xs : List TrailStep) (b : B) → IsNoUnbind out
      → Runs k f (bind seeing_room (λ room. when same_handle x h && room then bind (reading out read) g else otherwise)) xs b
      → (x ≢ h) ⊎ (has_room f.limbo ≡ false) ⊎ ((exchange : TrailStep) × (others : List TrailStep) × (xs ≡ exchange ∷ others) × (exchange.step.act ≡ out))
  unfolding bind
  taken_out f x out read g otherwise xs b plain runs =
      ⊎_elim
      (λ both.
      let a = splits k f (reading out read) g xs b both.1 in
      let exchange = one_load k f out _ read a.prefix a.answer plain a.first in
      inr (inr (exchange.step, a.rest, a.whole ∙ ap (λ (l : List TrailStep). l ++ a.rest) exchange.is, exchange.act_is)))
      (λ left. ⊎_elim (λ other. inl (same_handle-false x h other)) (λ full. inr (inl full)) (and_false (same_handle x h) (has_room f.limbo) left.0))
      (branch k f (same_handle x h && has_room f.limbo) _ _ xs b runs)

  row_purged : {A B : Type 0} (f : Fields) (row : ℕ) (out : Act) (read : ℕ → A) (g : A → Program B) (otherwise : Program B) (xs : List TrailStep) (b : B) → IsNoUnbind out
      → Runs k f (bind (reading_handle row) (λ x. bind seeing_room (λ room. when same_handle x h && room then bind (reading out read) g else otherwise))) xs b
      → RowPurged k f h row out xs
  row_purged f row out read g otherwise xs b plain runs =
      let a = splits k f (reading_handle row) (λ x. bind seeing_room (λ room. when same_handle x h && room then bind (reading out read) g else otherwise)) xs b runs in
      let handle = one_load k f (LoadRow row word.Handle) _ unpacked_handle a.prefix a.answer tt a.first in
      let f1 = after_steps k f a.prefix in
      let same : f1 ≡ f = ap (after_steps k f) handle.is ∙ leaves_fields k f handle.step (LoadRow row word.Handle) handle.act_is refl in
      let whole : xs ≡ handle.step ∷ a.rest = a.whole ∙ ap (λ (l : List TrailStep). l ++ a.rest) handle.is in
      subst (RowPurged k f h row out) (sym whole) (
        handle.act_is,
        ⊎_elim
            (λ other. inl (λ is. other (sym handle.answer ∙ is)))
            (λ others. inr (⊎_elim (λ full. inl (subst (λ (x : Fields). has_room x.limbo ≡ false) same full)) (λ t. inr t) others))
            (taken_out f1 a.answer out read g otherwise a.rest b plain a.second),
      )

  -- ---- one cell, one bucket

  cell_purged : (f : Fields) (site : ℕ) (cell : CellWord) (xs : List TrailStep) (u : Unit {0}) → Runs k f (purging_cell h site cell) xs u → CellPurged k f h site cell xs
  unfolding purging_cell unlinking
  cell_purged f site Lookup xs u runs = tt
  cell_purged f site Resolve xs u runs = tt
  cell_purged f site (Dispatch row) xs u runs = row_purged f row (ToLookup site row) _ _ _ xs u tt runs

  bucket_purged : (f : Fields) (bucket : ℕ) (named : Option ℕ) (xs : List TrailStep) (u : Unit {0}) → Runs k f (purging_bucket h bucket named) xs u → BucketPurged k f h bucket named xs
  unfolding purging_bucket
  bucket_purged f bucket None xs u runs = tt
  bucket_purged f bucket (Some row) xs u runs = row_purged f row (EmptyBucket bucket) _ _ _ xs u tt runs

  -- ---- all cells, all buckets

  cells_purged : (n from site : ℕ) → from ≤ site → site < from + n → (f : Fields) (xs : List TrailStep) (u : Unit {0}) → Runs k f (purging_cells h n from) xs u → PurgesCell k h site f xs
  unfolding purging_cells
  cells_purged zero from site low high f xs u runs = absurd (omega arith)
  cells_purged (suc n) from site low high f xs u runs =
      let a = splits k f (reading_cell from) _ xs u runs in
      let load = one_load k f (LoadCell from) _ unpacked_cell a.prefix a.answer tt a.first in
      let g = after_steps k f a.prefix in
      let same : g ≡ f = ap (after_steps k f) load.is ∙ leaves_fields k f load.step (LoadCell from) load.act_is refl in
      let c = splits k g (purging_cell h from a.answer) _ a.rest u a.second in
      ⊎_elim
      (λ (later : from < site). cell_rest site f a.prefix a.rest xs a.whole (cell_rest site g c.prefix c.rest a.rest c.whole
      (cells_purged n (from + 1) site (omega arith) (omega arith) (after_steps k g c.prefix) c.rest u c.second)))
      (λ (here : site ≤ from).
      let is : site ≡ from = omega arith in
      let purged : CellPurged k f h from (unpacked_cell load.step.step.found) c.prefix =
      subst (λ (w : CellWord). CellPurged k f h from w c.prefix) (sym load.answer) (subst (λ (x : Fields). CellPurged k x h from a.answer c.prefix) same (cell_purged g from a.answer c.prefix c.answer c.first)) in
      subst (λ (s : ℕ). PurgesCell k h s f xs) (sym is) (record {
        before = [];
        load = load.step;
        more = c.prefix ++ c.rest;
        whole = a.whole ∙ (ap (λ (l : List TrailStep). l ++ a.rest) load.is ∙ ap (λ (l : List TrailStep). load.step ∷ l) c.whole);
        load_is = load.act_is;
        purged = cell_more f from (unpacked_cell load.step.step.found) c.prefix c.rest purged;
      }))
      (cases_lt from site)

  buckets_purged : (n from bucket : ℕ) → from ≤ bucket → bucket < from + n → (f : Fields) (xs : List TrailStep) (u : Unit {0}) → Runs k f (purging_buckets h n from) xs u → PurgesBucket k h bucket f xs
  unfolding purging_buckets
  buckets_purged zero from bucket low high f xs u runs = absurd (omega arith)
  buckets_purged (suc n) from bucket low high f xs u runs =
      let a = splits k f (looking from) _ xs u runs in
      let load = one_load k f (LoadBucket from) _ unpacked_bucket a.prefix a.answer tt a.first in
      let g = after_steps k f a.prefix in
      let same : g ≡ f = ap (after_steps k f) load.is ∙ leaves_fields k f load.step (LoadBucket from) load.act_is refl in
      let c = splits k g (purging_bucket h from a.answer) _ a.rest u a.second in
      ⊎_elim
      (λ (later : from < bucket). bucket_rest bucket f a.prefix a.rest xs a.whole (bucket_rest bucket g c.prefix c.rest a.rest c.whole
      (buckets_purged n (from + 1) bucket (omega arith) (omega arith) (after_steps k g c.prefix) c.rest u c.second)))
      (λ (here : bucket ≤ from).
      let is : bucket ≡ from = omega arith in
      let purged : BucketPurged k f h from (unpacked_bucket load.step.step.found) c.prefix =
      subst (λ (w : Option ℕ). BucketPurged k f h from w c.prefix) (sym load.answer) (subst (λ (x : Fields). BucketPurged k x h from a.answer c.prefix) same (bucket_purged g from a.answer c.prefix c.answer c.first)) in
      subst (λ (s : ℕ). PurgesBucket k h s f xs) (sym is) (record {
        before = [];
        load = load.step;
        more = c.prefix ++ c.rest;
        whole = a.whole ∙ (ap (λ (l : List TrailStep). l ++ a.rest) load.is ∙ ap (λ (l : List TrailStep). load.step ∷ l) c.whole);
        load_is = load.act_is;
        purged = bucket_more f from (unpacked_bucket load.step.step.found) c.prefix c.rest purged;
      }))
      (cases_lt from bucket)

  -- ---- an unload

  pub unload_purges_cell : (f : Fields) (trail : List TrailStep) (u : Unit {0}) (site : ℕ) → site < k.sizes.sites → Runs k f (unloading k h) trail u → PurgesCell k h site f trail
  unfolding unloading
  unload_purges_cell f trail u site small runs =
      let a = splits k f (pinning (Unload h)) _ trail u runs in
      let f1 = after_steps k f a.prefix in
      let b = splits k f1 (unbinding h) _ a.rest u a.second in
      let f2 = after_steps k f1 b.prefix in
      let c = splits k f2 (purging_cells h k.sizes.sites 0) _ b.rest u b.second in
      cell_rest site f a.prefix a.rest trail a.whole (cell_rest site f1 b.prefix b.rest a.rest b.whole (cell_front site f2 c.prefix c.rest b.rest c.whole
      (cells_purged k.sizes.sites 0 site (omega arith) (omega arith) f2 c.prefix c.answer c.first)))

  pub unload_purges_bucket : (f : Fields) (trail : List TrailStep) (u : Unit {0}) (bucket : ℕ) → bucket < k.sizes.buckets → Runs k f (unloading k h) trail u → PurgesBucket k h bucket f trail
  unfolding unloading
  unload_purges_bucket f trail u bucket small runs =
      let a = splits k f (pinning (Unload h)) _ trail u runs in
      let f1 = after_steps k f a.prefix in
      let b = splits k f1 (unbinding h) _ a.rest u a.second in
      let f2 = after_steps k f1 b.prefix in
      let c = splits k f2 (purging_cells h k.sizes.sites 0) _ b.rest u b.second in
      let f3 = after_steps k f2 c.prefix in
      let d = splits k f3 (purging_buckets h k.sizes.buckets 0) _ c.rest u c.second in
      bucket_rest bucket f a.prefix a.rest trail a.whole (bucket_rest bucket f1 b.prefix b.rest a.rest b.whole (bucket_rest bucket f2 c.prefix c.rest b.rest c.whole (bucket_front bucket f3 d.prefix d.rest c.rest d.whole
      (buckets_purged k.sizes.buckets 0 bucket (omega arith) (omega arith) f3 d.prefix d.answer d.first))))
