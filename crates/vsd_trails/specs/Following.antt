-- Which step comes right after which: where a call sets its cell to Resolve, where a row enters limbo, and where the epoch is raised.
use Rattle.std.specs.Prelude.{◌≡◌, ℕ, ◌+◌, ◌^◌, ◌≤◌, ◌<◌, List, [], ◌∷◌, ◌++◌, length}
use Rattle.vsd_rule.specs.declared.key.Key.{Key}
use Rattle.vsd_rule.specs.declared.step.Act.{Act}
use Rattle.vsd_rule.specs.declared.step.Act.TheVariants.{Count, ToResolve, ToLookup, PutBucket, EmptyBucket, EpochToRetire, Raise}
use Rattle.vsd_rule.specs.Lists.{site_token}
use Rattle.vsd_trails.specs.Programs.{TrailStep}

-- Each step of the trail that is due is followed by one that answers it, and a step of that kind stands nowhere else.
pub record Follows (Due IsKind : TrailStep → Type 0) (Answers : TrailStep → TrailStep → Type 0) (trail : List TrailStep) : Type 0 where
  pub due : (before : List TrailStep) (x : TrailStep) (after : List TrailStep) → trail ≡ before ++ x ∷ after → Due x
      → (y : TrailStep) × (more : List TrailStep) × (after ≡ y ∷ more) × Answers x y
  pub only : (before : List TrailStep) (y : TrailStep) (after : List TrailStep) → trail ≡ before ++ y ∷ after → IsKind y
      → (earlier : List TrailStep) × (x : TrailStep) × (before ≡ earlier ++ x ∷ []) × Due x × Answers x y

-- ---- a cell is set to Resolve

-- A miss of the site's token: those counted before and this one are as many as the limit or more, and limbo, which holds
-- sixteen rows, has room for two more.
pub record ReachesLimit (k : Key) (site : ℕ) (x : TrailStep) : Type 0 where
  pub counts : x.step.act ≡ Count (site_token k site)
  pub reached : k.sizes.miss ≤ x.step.found + 1
  pub room : length x.step.limbo + 2 ≤ 16

-- an exchange of the site's cell from Dispatch of some row to Resolve
abbrev pub TriesResolve : ℕ → TrailStep → Type 0
TriesResolve site y = (row : ℕ) × (y.step.act ≡ ToResolve site row)

abbrev pub TriesSomeResolve : TrailStep → Type 0
TriesSomeResolve y = (site : ℕ) × TriesResolve site y

-- Right after the misses that reach the limit, and nowhere else, a call tries to set its cell to Resolve.
abbrev pub SetsResolve : Key → ℕ → List TrailStep → Type 0
SetsResolve k site = Follows (ReachesLimit k site) TriesSomeResolve (λ x y. TriesResolve site y)

-- ---- a row enters limbo

-- the step took this row out of its cell, by an exchange that was won, or out of its bucket
abbrev pub TakesOut : Act → ℕ → ℕ → Type 0
TakesOut (ToResolve site from) found row = (row ≡ from) × (found ≡ 2 + from)
TakesOut (ToLookup site from) found row = (row ≡ from) × (found ≡ 2 + from)
TakesOut (PutBucket bucket new) found row = found ≡ row + 1
TakesOut (EmptyBucket bucket) found row = found ≡ row + 1
TakesOut act found row = ⊥

abbrev pub CameOut : ℕ → TrailStep → Type 0
CameOut row x = TakesOut x.step.act x.step.found row

abbrev pub Retires : ℕ → TrailStep → Type 0
Retires row y = y.step.act ≡ EpochToRetire row

abbrev pub SomeCameOut : TrailStep → Type 0
SomeCameOut x = (row : ℕ) × CameOut row x

abbrev pub RetiresSome : TrailStep → Type 0
RetiresSome y = (row : ℕ) × Retires row y

-- the one took a row out, and the other retires it
abbrev pub RetiresIts : TrailStep → TrailStep → Type 0
RetiresIts x y = (row : ℕ) × CameOut row x × Retires row y

-- Right after a row came out of its cell or bucket it enters limbo, and no other row does.
abbrev pub RetiresRows : List TrailStep → Type 0
RetiresRows = Follows SomeCameOut RetiresSome RetiresIts

-- ---- the epoch is raised

-- a row enters limbo at the epoch that the step found, and this is not the last epoch
pub record RetiresBelowEnd (x : TrailStep) : Type 0 where
  pub retires : RetiresSome x
  pub below : x.step.found < 2 ^ 62

abbrev pub RaisesSome : TrailStep → Type 0
RaisesSome y = (epoch : ℕ) × (y.step.act ≡ Raise epoch)

-- the one found an epoch, and the other tries to raise it
abbrev pub RaisesIts : TrailStep → TrailStep → Type 0
RaisesIts x y = y.step.act ≡ Raise x.step.found

-- Right after a row entered limbo at an epoch that is not the last one, the next step tries to raise that epoch, and no epoch
-- is raised elsewhere.
abbrev pub RaisesEpoch : List TrailStep → Type 0
RaisesEpoch = Follows RetiresBelowEnd RaisesSome RaisesIts
