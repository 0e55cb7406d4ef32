-- What the trail of a call shows of its path: by which loads it found its target, or that none gave it.
use Rattle.std.specs.Prelude.{◌≡◌, ◌⊎◌, ℕ, ◌+◌, false, List, [], ◌∷◌, ◌++◌, map, Option, Some, None, Result, Ok, Err}
use Rattle.vsd_words.specs.declared.handle.Handle.{Handle}
use Rattle.vsd_words.specs.declared.cell_word.CellWord.{CellWord}
use Rattle.vsd_words.specs.declared.cell_word.CellWord.TheVariants.{Lookup, Resolve, Dispatch}
use Rattle.vsd_words.specs.Hash.{bucket_of}
use Rattle.vsd_rule.specs.declared.key.Key.{Key}
use Rattle.vsd_rule.specs.declared.step.Act.{Act}
use Rattle.vsd_rule.specs.declared.step.Act.TheVariants.{LoadRow, LoadCell, LoadBucket, LoadHandle}
use Rattle.vsd_rule.specs.declared.step.RowWord.TheVariants as word
use Rattle.vsd_rule.specs.Lists.{site_token}
use Rattle.vsd_rule.specs.RowSteps.{unpacked_handle}
use Rattle.vsd_trails.specs.declared.answers.Answer.{Answer}
use Rattle.vsd_trails.specs.declared.answers.Path.{Path}
use Rattle.vsd_trails.specs.declared.answers.Path.TheVariants.{Stub, Bucket, Walked}
use Rattle.vsd_trails.specs.declared.answers.Seen.{Seen}
use Rattle.vsd_trails.specs.declared.answers.Unloaded.{Unloaded}
use Rattle.vsd_trails.specs.Programs.{TrailStep, Asked, EachStep}
use Rattle.vsd_trails.specs.Words.{unpacked_handle_word, is_live_at}

-- what a step did, and the word that it found
abbrev pub load_of : TrailStep → Act × ℕ
load_of x = (x.step.act, x.step.found)

-- somewhere in the trail these loads stand one right after another
pub record InTurn (trail : List TrailStep) (loads : List (Act × ℕ)) : Type 0 where
  pub before : List TrailStep
  pub there : List TrailStep
  pub after : List TrailStep
  pub whole : trail ≡ before ++ (there ++ after)
  pub same : map load_of there ≡ loads

-- ---- the pair that a call is on

-- a load of the cell finds that it names the row, and the next load finds the row's handle
abbrev pub cell_loads : ℕ → ℕ → ℕ → List (Act × ℕ)
cell_loads site row packed = (LoadCell site, 2 + row) ∷ (LoadRow row word.Handle, packed) ∷ []

-- a load of the bucket finds that it names the row, and the next two find the row's handle and token
abbrev pub bucket_loads : ℕ → ℕ → ℕ → ℕ → List (Act × ℕ)
bucket_loads bucket row packed token = (LoadBucket bucket, row + 1) ∷ (LoadRow row word.Handle, packed) ∷ (LoadRow row word.Token, token) ∷ []

-- the row that was loaded from the cell has the handle
pub record HeldByCell (site : ℕ) (h : Handle) (trail : List TrailStep) : Type 0 where
  pub row : ℕ
  pub packed : ℕ
  pub handle : unpacked_handle packed ≡ h
  pub loads : InTurn trail (cell_loads site row packed)

-- the row that was loaded from a bucket has the handle and the token
pub record HeldByBucket (token : ℕ) (h : Handle) (trail : List TrailStep) : Type 0 where
  pub bucket : ℕ
  pub row : ℕ
  pub packed : ℕ
  pub handle : unpacked_handle packed ≡ h
  pub loads : InTurn trail (bucket_loads bucket row packed token)

-- the trail of a call of the site on the handle holds their pair
abbrev pub HoldsPair : Key → ℕ → Handle → List TrailStep → Type 0
HoldsPair k site h trail = HeldByCell site h trail ⊎ HeldByBucket (site_token k site) h trail

-- ---- where the target was found

-- in the row that the cell names: its handle is the call's, and the next load finds its target
pub record StubTells (site : ℕ) (h : Handle) (trail : List TrailStep) (target : ℕ) : Type 0 where
  pub row : ℕ
  pub packed : ℕ
  pub handle : unpacked_handle packed ≡ h
  pub loads : InTurn trail (cell_loads site row packed ++ (LoadRow row word.Target, target) ∷ [])

-- in the row that the pair's bucket names: its handle and token are the call's, and the next load finds its target
pub record BucketTells (bucket token : ℕ) (h : Handle) (trail : List TrailStep) (target : ℕ) : Type 0 where
  pub row : ℕ
  pub packed : ℕ
  pub handle : unpacked_handle packed ≡ h
  pub loads : InTurn trail (bucket_loads bucket row packed token ++ (LoadRow row word.Target, target) ∷ [])

-- ---- what a walk saw

-- the cell, and the handle of the row that it names, which is another one
abbrev pub CellShown : ℕ → Handle → List TrailStep → CellWord → Option Handle → Type 0
CellShown site h trail Lookup expected = (expected ≡ None) × InTurn trail ((LoadCell site, 0) ∷ [])
CellShown site h trail Resolve expected = (expected ≡ None) × InTurn trail ((LoadCell site, 1) ∷ [])
CellShown site h trail (Dispatch row) None = ⊥
CellShown site h trail (Dispatch row) (Some g) = (packed : ℕ) × (unpacked_handle packed ≡ g) × (g ≡ h → ⊥) × InTurn trail (cell_loads site row packed)

-- the handle and token of the row that the bucket names, of which one is another
abbrev pub BucketShown : ℕ → ℕ → Handle → List TrailStep → Option Handle → Option ℕ → Type 0
BucketShown bucket token h trail None None = InTurn trail ((LoadBucket bucket, 0) ∷ [])
BucketShown bucket token h trail (Some g) (Some t) = (row packed : ℕ) × (unpacked_handle packed ≡ g) × (g ≡ h → t ≡ token → ⊥) × InTurn trail (bucket_loads bucket row packed t)
BucketShown bucket token h trail None (Some t) = ⊥
BucketShown bucket token h trail (Some g) None = ⊥

-- `Seen` has the words that the trail loaded
pub record IsSeen (k : Key) (site : ℕ) (h : Handle) (trail : List TrailStep) (seen : Seen) : Type 0 where
  pub cell : CellShown site h trail seen.cell seen.expected
  pub bucket : BucketShown (bucket_of (site_token k site) h k.sizes.buckets) (site_token k site) h trail seen.entry_handle seen.entry_token

-- the handle word that was loaded, by which the handle's type is unloaded
pub record ShowsUnloaded (h : Handle) (trail : List TrailStep) (u : Unloaded) : Type 0 where
  pub handle : u.handle ≡ h
  pub gone : is_live_at h.generation u.found ≡ false
  pub packed : ℕ
  pub word : unpacked_handle_word packed ≡ u.found
  pub load : InTurn trail ((LoadHandle h.row, packed) ∷ [])

-- a step that loads no handle word
abbrev pub IsNoHandleLoad : Act → Type 0
IsNoHandleLoad (LoadHandle row) = ⊥
IsNoHandleLoad act = Unit {0}

abbrev pub LoadsNoHandle : Asked → Type 0
LoadsNoHandle c = IsNoHandleLoad c.act

-- ---- what a call's answer tells of its trail

-- By the cell: it holds the pair. By the bucket: it does, and the cell does not. By a walk: neither does, and `Seen` says so.
-- A handle word is loaded by a walk alone.
abbrev pub PathTells : Key → ℕ → Handle → List TrailStep → ℕ → Path → Type 0
PathTells k site h trail target Stub = StubTells site h trail target × EachStep LoadsNoHandle trail
PathTells k site h trail target Bucket =
    BucketTells (bucket_of (site_token k site) h k.sizes.buckets) (site_token k site) h trail target × EachStep LoadsNoHandle trail × (HeldByCell site h trail → ⊥)
PathTells k site h trail target (Walked seen) = IsSeen k site h trail seen × (HoldsPair k site h trail → ⊥)

abbrev pub AnswerTells : Key → ℕ → Handle → List TrailStep → Result Answer Unloaded → Type 0
AnswerTells k site h trail (Ok a) = PathTells k site h trail a.target a.path
AnswerTells k site h trail (Err u) = ShowsUnloaded h trail u × (HoldsPair k site h trail → ⊥)
