-- What the answers of a look and of a write tell of the steps that the caller made.
use Rattle.std.specs.Prelude.{◌≡◌, ◌≢◌, ◌⊎◌, ◌<◌, ◌≤◌, ℕ, ◌+◌, ◌%◌, ◌^◌, zero, suc, Bool, List, [], ◌∷◌, length, map, slice_index}
use Rattle.vsd_words.specs.declared.handle.Handle.{Handle}
use Rattle.vsd_words.specs.declared.cast_word.CastWord.{CastWord}
use Rattle.vsd_words.specs.Handle.{packed_handle}
use Rattle.vsd_words.specs.Hash.{home_of}
use Rattle.vsd_rule.specs.declared.key.Key.{Key}
use Rattle.vsd_rule.specs.declared.step.Act.{Act}
use Rattle.vsd_rule.specs.declared.step.Act.TheVariants.{LoadRegion, LoadVersion, ClaimCast, ReclaimCast, SetSource, SetCast, Publish, Grow}
use Rattle.vsd_table.specs.declared.seated.Seated.{Seated}
use Rattle.vsd_trails.specs.declared.casting.Miss.{Miss}
use Rattle.vsd_trails.specs.declared.casting.Find.{Find}
use Rattle.vsd_trails.specs.declared.casting.Find.TheVariants as find
use Rattle.vsd_trails.specs.declared.casting.Put.{Put}
use Rattle.vsd_trails.specs.declared.casting.Put.TheVariants.{Written, Grew, Nothing}
use Rattle.vsd_trails.specs.declared.casting.Lost.TheVariants as lost
use Rattle.vsd_trails.specs.Programs.{TrailStep, onto}
use Rattle.vsd_trails.specs.CastTrails.{region_size, probe_row}
use Rattle.vsd_trails.specs.CallPaths.{InTurn}
use Rattle.vsd_trails.specs.CastPaths.{ShowsHit, HasNoHit}
use Rattle.vsd_rows.specs.Makes.{steps_of}

-- the steps that the caller's seat made show this
pub record Tells (old new : Seated) (Shows : List TrailStep → Type 0) : Type 0 where
  pub trail : List TrailStep
  pub made : steps_of new ≡ onto trail (steps_of old)
  pub shows : Shows trail

-- ---- a look

-- no probe is a hit; the region is the one that was loaded, the home the pair's, and the versions those that the eight probes loaded first
pub record ShowsMiss (source target : Handle) (trail : List TrailStep) (m : Miss) : Type 0 where
  pub unhit : HasNoHit source target trail
  pub region : InTurn trail ((LoadRegion, m.region) ∷ [])
  pub home : m.home ≡ home_of source target (region_size m.region)
  pub eight : length m.versions ≡ 8
  pub version : (i : ℕ) → i < 8 → InTurn trail ((LoadVersion m.region (probe_row m.region m.home i), slice_index m.versions i) ∷ [])

-- By a hit: a probe of the region that was loaded is one, and its cast word has the answer.
abbrev pub FindTells : Handle → Handle → List TrailStep → Find → Type 0
FindTells source target trail (find.Hit answer) = ShowsHit source target trail answer
FindTells source target trail (find.Miss m) = ShowsMiss source target trail m

-- ---- the row that a write chooses, or the region that it asks for

-- each probe first loaded another version than 0
abbrev pub AllUsed : List ℕ → Type 0
AllUsed versions = (i : ℕ) → i < length versions → slice_index versions i ≢ 0

-- it is the first probe whose version was first loaded as 0
pub record IsFirstUnused (versions : List ℕ) (i : ℕ) : Type 0 where
  pub probe : i < length versions
  pub unused : slice_index versions i ≡ 0
  pub first : (j : ℕ) → j < i → slice_index versions j ≢ 0

module _ (k : Key) (m : Miss) (source target : Handle) where
  -- none was 0, there is no next region, and the sum of the packed handles chooses
  pub record IsByHandles (i : ℕ) : Type 0 where
    pub used : AllUsed m.versions
    pub last : k.sizes.regions ≤ m.region + 1
    pub chosen : i ≡ (packed_handle source + packed_handle target) % 8

  abbrev pub IsChosen : ℕ → Type 0
  IsChosen i = IsFirstUnused m.versions i ⊎ IsByHandles i

-- none was 0, and there is a next region
pub record WantsRegion (k : Key) (m : Miss) : Type 0 where
  pub used : AllUsed m.versions
  pub next : m.region + 1 < k.sizes.regions

-- ---- a write

-- the row is being written, or its version is at its end
abbrev pub IsBusy : ℕ → Type 0
IsBusy version = (version % 2 ≡ 1) ⊎ (2 ^ 62 ≤ version)

-- the exchange of a version to the next, which is odd
abbrev pub odd_act : ℕ → ℕ → ℕ → Act
odd_act region row zero = ClaimCast region row
odd_act region row (suc n) = ReclaimCast region row (suc n)

abbrev pub act_of : TrailStep → Act
act_of x = x.step.act

-- the exchange came first, and found this word; then came these steps
pub record Exchanges (trail : List TrailStep) (act : Act) (found : ℕ) (acts : List Act) : Type 0 where
  pub exchange : TrailStep
  pub more : List TrailStep
  pub whole : trail ≡ exchange ∷ more
  pub act_is : act_of exchange ≡ act
  pub word : exchange.step.found ≡ found
  pub more_are : map act_of more ≡ acts

-- the stores of the source, of the cast word and of the next even version
abbrev pub written_acts : ℕ → ℕ → Handle → CastWord → ℕ → List Act
written_acts region row source word version = SetSource region row source ∷ SetCast region row word ∷ Publish region row (version + 2) ∷ []

module _ (k : Key) (m : Miss) (source target : Handle) (answer : Bool) (trail : List TrailStep) where
  -- the row of the i-th probe
  abbrev pub row_at : ℕ → ℕ
  row_at i = probe_row m.region m.home i

  abbrev pub version_at : ℕ → ℕ
  version_at i = slice_index m.versions i

  -- one exchange of the chosen row's version was won, and the three stores followed
  pub record ShowsWritten : Type 0 where
    pub i : ℕ
    pub chosen : IsChosen k m source target i
    pub free : IsBusy (version_at i) → ⊥
    pub steps : Exchanges trail (odd_act m.region (row_at i) (version_at i)) (version_at i) (written_acts m.region (row_at i) source (record { target = target; yes = answer }) (version_at i))

  -- one exchange of the region was won
  pub record ShowsGrew : Type 0 where
    pub wants : WantsRegion k m
    pub steps : Exchanges trail (Grow m.region) m.region []

  -- nothing was tried: the chosen row's version is odd or at its end
  pub record ShowsBusy (version : ℕ) : Type 0 where
    pub i : ℕ
    pub chosen : IsChosen k m source target i
    pub is : version ≡ version_at i
    pub busy : IsBusy version
    pub steps : trail ≡ []

  -- one exchange of the chosen row's version found another word
  pub record ShowsClaim (found : ℕ) : Type 0 where
    pub i : ℕ
    pub chosen : IsChosen k m source target i
    pub free : IsBusy (version_at i) → ⊥
    pub other : found ≢ version_at i
    pub steps : Exchanges trail (odd_act m.region (row_at i) (version_at i)) found []

  -- one exchange of the region found another one
  pub record ShowsGrow (found : ℕ) : Type 0 where
    pub wants : WantsRegion k m
    pub other : found ≢ m.region
    pub steps : Exchanges trail (Grow m.region) found []

  abbrev pub PutTells : Put → Type 0
  PutTells Written = ShowsWritten
  PutTells Grew = ShowsGrew
  PutTells (Nothing (lost.Busy version)) = ShowsBusy version
  PutTells (Nothing (lost.Claim found)) = ShowsClaim found
  PutTells (Nothing (lost.Grow found)) = ShowsGrow found
