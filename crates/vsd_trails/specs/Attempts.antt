-- What a call tries after a walk and at a cell that was Lookup, how it ends, and what an unload tries at each cell and bucket.
use Rattle.std.specs.Prelude.{◌≡◌, ◌≢◌, ◌⊎◌, ℕ, zero, suc, false, List, [], ◌∷◌, ◌++◌, Option, Some, None}
use Rattle.vsd_words.specs.declared.handle.Handle.{Handle}
use Rattle.vsd_words.specs.declared.cell_word.CellWord.{CellWord}
use Rattle.vsd_words.specs.declared.cell_word.CellWord.TheVariants.{Lookup, Resolve, Dispatch}
use Rattle.vsd_words.specs.Hash.{bucket_of}
use Rattle.vsd_rule.specs.declared.key.Key.{Key}
use Rattle.vsd_rule.specs.declared.row_view.RetiredRow.{RetiredRow}
use Rattle.vsd_rule.specs.declared.step.Act.{Act}
use Rattle.vsd_rule.specs.declared.step.Act.TheVariants.{Unpin, SetHandle, SetToken, SetTarget, LoadRow, Free, LoadCell, ToDispatch, ToLookup, LoadBucket, PutBucket, EmptyBucket, LoadHandle, EpochToRetire, EpochOf, FreeSwept}
use Rattle.vsd_rule.specs.declared.step.RowWord.TheVariants as word
use Rattle.vsd_rule.specs.Lists.{site_token}
use Rattle.vsd_rule.specs.RowSteps.{unpacked_handle, is_clear}
use Rattle.vsd_trails.specs.declared.answers.Path.{Path}
use Rattle.vsd_trails.specs.declared.answers.Path.TheVariants.{Stub, Bucket, Walked}
use Rattle.vsd_trails.specs.Programs.{Fields, TrailStep, after_steps, Runs}
use Rattle.vsd_trails.specs.Words.{unpacked_cell, unpacked_bucket}
use Rattle.vsd_trails.specs.RowTrails.{has_room, claiming}

-- a part of a trail that began at these fields
pub record Part (k : Key) (f : Fields) (trail : List TrailStep) (at : Fields) (there : List TrailStep) : Type 0 where
  pub before : List TrailStep
  pub after : List TrailStep
  pub whole : trail ≡ before ++ (there ++ after)
  pub fields : at ≡ after_steps k f before

-- the last of the steps is this one
pub record EndsBy (act : Act) (xs : List TrailStep) : Type 0 where
  pub before : List TrailStep
  pub last : TrailStep
  pub whole : xs ≡ before ++ last ∷ []
  pub last_is : last.step.act ≡ act

-- the first of the steps is this one
pub record BeginsBy (act : Act) (xs : List TrailStep) : Type 0 where
  pub first : TrailStep
  pub after : List TrailStep
  pub whole : xs ≡ first ∷ after
  pub first_is : first.step.act ≡ act

-- ---- a row that a walk or a hit publishes

-- A claim gave a row, its three words were stored, and the next step tried to publish it. `Ends` is what comes of it: the
-- row, the step that tried, and the steps after it.
pub record Publishes (k : Key) (f : Fields) (h : Handle) (token target : ℕ) (publish : ℕ → Act) (Ends : ℕ → TrailStep → List TrailStep → Type 0) (there : List TrailStep) : Type 0 where
  pub row : ℕ
  pub claims : List TrailStep
  pub handle : TrailStep
  pub its_token : TrailStep
  pub its_target : TrailStep
  pub last : TrailStep
  pub more : List TrailStep
  pub whole : there ≡ claims ++ (handle ∷ its_token ∷ its_target ∷ last ∷ more)
  pub claimed : Runs k f (claiming k) claims (Some row)
  pub handle_is : handle.step.act ≡ SetHandle row h
  pub token_is : its_token.step.act ≡ SetToken row token
  pub target_is : its_target.step.act ≡ SetTarget row target
  pub last_is : last.step.act ≡ publish row
  pub ends : Ends row last more

-- a claim gave no row, or the row that it gave was tried
abbrev pub TriesRow : Key → Fields → Handle → ℕ → ℕ → (ℕ → Act) → (ℕ → TrailStep → List TrailStep → Type 0) → List TrailStep → Type 0
TriesRow k f h token target publish Ends there = Runs k f (claiming k) there None ⊎ Publishes k f h token target publish Ends there

-- after a swap into a bucket: nothing where it was empty, and else the row that came out enters limbo
abbrev pub OutRetired : Option ℕ → List TrailStep → Type 0
OutRetired None more = more ≡ []
OutRetired (Some out) more = BeginsBy (EpochToRetire out) more

-- after an exchange of a cell from Lookup: nothing where it was won, and else the row is free again
abbrev pub LostFreed : ℕ → ℕ → List TrailStep → Type 0
LostFreed row zero more = more ≡ []
LostFreed row (suc found) more = (free : TrailStep) × (more ≡ free ∷ []) × (free.step.act ≡ Free row)

-- the pair was tried in its bucket
abbrev pub BucketTry : Key → ℕ → Handle → ℕ → Fields → List TrailStep → Type 0
BucketTry k site h target f there =
    TriesRow k f h (site_token k site) target (PutBucket (bucket_of (site_token k site) h k.sizes.buckets)) (λ row last more. OutRetired (unpacked_bucket last.step.found) more) there

-- the pair was tried in the cell
abbrev pub CellTry : Key → ℕ → Handle → ℕ → Fields → List TrailStep → Type 0
CellTry k site h target f there = TriesRow k f h (site_token k site) target (ToDispatch site) (λ row last more. LostFreed row last.step.found more) there

-- A walk swaps its pair into the pair's bucket, but where limbo has no room or no row is given: right after it loaded the
-- handle word.
pub record TriesBucket (k : Key) (site : ℕ) (h : Handle) (target : ℕ) (f : Fields) (trail : List TrailStep) : Type 0 where
  pub at : Fields
  pub there : List TrailStep
  pub part : Part k f trail at there
  pub place : EndsBy (LoadHandle h.row) part.before
  pub tries : (has_room at.limbo ≡ false) ⊎ BucketTry k site h target at there

-- A call that loaded Lookup tries to install its pair in the cell, but where no row is given: right before its unpin.
pub record TriesCell (k : Key) (site : ℕ) (h : Handle) (target : ℕ) (f : Fields) (trail : List TrailStep) : Type 0 where
  pub at : Fields
  pub there : List TrailStep
  pub part : Part k f trail at there
  pub place : BeginsBy Unpin part.after
  pub tries : CellTry k site h target at there

-- A walk of a call that loaded Lookup tries both, each by a claim of its own: the one begins where the other ends.
pub record TriesBoth (k : Key) (site : ℕ) (h : Handle) (target : ℕ) (f : Fields) (trail : List TrailStep) : Type 0 where
  pub bucket : TriesBucket k site h target f trail
  pub cell : TriesCell k site h target f trail
  pub apart : cell.part.before ≡ bucket.part.before ++ bucket.there

-- what a call that loaded Lookup tries, by its path
abbrev pub TriesByPath : Key → ℕ → Handle → ℕ → Fields → List TrailStep → Path → Type 0
TriesByPath k site h target f trail Stub = TriesCell k site h target f trail
TriesByPath k site h target f trail Bucket = TriesCell k site h target f trail
TriesByPath k site h target f trail (Walked seen) = TriesBoth k site h target f trail

-- ---- the end of a call or an unload

-- the oldest row was freed, or the epoch word of a caller that may protect it was loaded
abbrev pub EndsSweep : RetiredRow → TrailStep → Type 0
EndsSweep x last = (last.step.act ≡ FreeSwept x.row) ⊎ ((caller : ℕ) × (last.step.act ≡ EpochOf caller) × (is_clear x.epoch last.step.found ≡ false))

-- With a row in limbo at its unpin, the last step ends the sweep of the oldest.
pub record SweepsAtEnd (k : Key) (f : Fields) (trail : List TrailStep) : Type 0 where
  pub before : List TrailStep
  pub unpin : TrailStep
  pub sweep : List TrailStep
  pub whole : trail ≡ before ++ unpin ∷ sweep
  pub unpin_is : unpin.step.act ≡ Unpin
  pub ends : (x : RetiredRow) (xs : List RetiredRow) → (after_steps k f before).limbo ≡ x ∷ xs → (prefix : List TrailStep) × (last : TrailStep) × (sweep ≡ prefix ++ last ∷ []) × EndsSweep x last

-- ---- what an unload tries

-- the row has another handle, or limbo has no room, or the next step takes the row out
abbrev pub RowPurged : Key → Fields → Handle → ℕ → Act → List TrailStep → Type 0
RowPurged k f h row out [] = ⊥
RowPurged k f h row out (handle ∷ more) = (handle.step.act ≡ LoadRow row word.Handle)
    × ((unpacked_handle handle.step.found ≢ h) ⊎ (has_room f.limbo ≡ false) ⊎ ((exchange : TrailStep) × (others : List TrailStep) × (more ≡ exchange ∷ others) × (exchange.step.act ≡ out)))

abbrev pub CellPurged : Key → Fields → Handle → ℕ → CellWord → List TrailStep → Type 0
CellPurged k f h site Lookup more = Unit {0}
CellPurged k f h site Resolve more = Unit {0}
CellPurged k f h site (Dispatch row) more = RowPurged k f h row (ToLookup site row) more

abbrev pub BucketPurged : Key → Fields → Handle → ℕ → Option ℕ → List TrailStep → Type 0
BucketPurged k f h bucket None more = Unit {0}
BucketPurged k f h bucket (Some row) more = RowPurged k f h row (EmptyBucket bucket) more

-- the site's cell was loaded, and what it names was purged
pub record PurgesCell (k : Key) (h : Handle) (site : ℕ) (f : Fields) (trail : List TrailStep) : Type 0 where
  pub before : List TrailStep
  pub load : TrailStep
  pub more : List TrailStep
  pub whole : trail ≡ before ++ load ∷ more
  pub load_is : load.step.act ≡ LoadCell site
  pub purged : CellPurged k (after_steps k f before) h site (unpacked_cell load.step.found) more

-- the bucket was loaded, and what it names was purged
pub record PurgesBucket (k : Key) (h : Handle) (bucket : ℕ) (f : Fields) (trail : List TrailStep) : Type 0 where
  pub before : List TrailStep
  pub load : TrailStep
  pub more : List TrailStep
  pub whole : trail ≡ before ++ load ∷ more
  pub load_is : load.step.act ≡ LoadBucket bucket
  pub purged : BucketPurged k (after_steps k f before) h bucket (unpacked_bucket load.step.found) more
