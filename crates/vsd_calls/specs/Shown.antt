-- What the steps of a call show of it.
use Rattle.std.specs.Prelude.{◌≡◌, ℕ, List, [], ◌∷◌, Result, Ok, Err}
use Rattle.vsd_words.specs.declared.handle.Handle.{Handle}
use Rattle.vsd_rule.specs.declared.key.Key.{Key}
use Rattle.vsd_rule.specs.declared.step.Act.TheVariants.{LoadCell}
use Rattle.vsd_table.specs.declared.seated.Seated.{Seated}
use Rattle.vsd_trails.specs.declared.answers.Answer.{Answer}
use Rattle.vsd_trails.specs.declared.answers.Path.{Path}
use Rattle.vsd_trails.specs.declared.answers.Path.TheVariants.{Stub, Bucket, Walked}
use Rattle.vsd_trails.specs.declared.answers.Unloaded.{Unloaded}
use Rattle.vsd_trails.specs.Programs.{Fields, TrailStep, onto}
use Rattle.vsd_trails.specs.CallPaths.{InTurn, AnswerTells}
use Rattle.vsd_trails.specs.Attempts.{TriesBucket, TriesByPath, SweepsAtEnd}
use Rattle.vsd_rows.specs.Makes.{steps_of, fields_of}

-- the steps that the seat made, the first one first, are so
pub record Made (old new : Seated) (AreSo : List TrailStep → Type 0) : Type 0 where
  pub trail : List TrailStep
  pub made : steps_of new ≡ onto trail (steps_of old)
  pub are_so : AreSo trail

-- after a walk
abbrev pub WalkTries : Key → ℕ → Handle → ℕ → Fields → List TrailStep → Path → Type 0
WalkTries k site h target f trail Stub = Unit {0}
WalkTries k site h target f trail Bucket = Unit {0}
WalkTries k site h target f trail (Walked seen) = TriesBucket k site h target f trail

-- A call that walked tried to put its pair into the pair's bucket, right after it loaded the handle word.
abbrev pub TriesAfterWalk : Key → ℕ → Handle → Fields → Result Answer Unloaded → List TrailStep → Type 0
TriesAfterWalk k site h f (Ok a) trail = WalkTries k site h a.target f trail a.path
TriesAfterWalk k site h f (Err u) trail = Unit {0}

-- A call that loaded Lookup and was answered tried to install its pair in the cell, right before its unpin. Where it walked,
-- this try begins where the one for the bucket ends, so that no claim serves for both.
abbrev pub TriesAtLookup : Key → ℕ → Handle → Fields → Result Answer Unloaded → List TrailStep → Type 0
TriesAtLookup k site h f (Ok a) trail = InTurn trail ((LoadCell site, 0) ∷ []) → TriesByPath k site h a.target f trail a.path
TriesAtLookup k site h f (Err u) trail = Unit {0}

module _ (k : Key) (site : ℕ) (h : Handle) (old new : Seated) (answer : Result Answer Unloaded) where
  -- where the target was found, or that neither cell nor bucket held the pair
  abbrev pub ShowsPath : Type 0
  ShowsPath = Made old new (λ trail. AnswerTells k site h trail answer)

  abbrev pub ShowsBucket : Type 0
  ShowsBucket = Made old new (λ trail. TriesAfterWalk k site h (fields_of old) answer trail)

  abbrev pub ShowsCell : Type 0
  ShowsCell = Made old new (λ trail. TriesAtLookup k site h (fields_of old) answer trail)

-- with a row in limbo at the unpin, the oldest was freed or a word that blocks it was loaded
abbrev pub ShowsSweep : Key → Seated → Seated → Type 0
ShowsSweep k old new = Made old new (λ trail. SweepsAtEnd k (fields_of old) trail)
