-- The laws that hold of every program.
use Rattle.std.specs.Prelude.{◌≡◌, ℕ, ◌≤◌, List, [], ◌∷◌, ◌++◌, length}
use Rattle.vsd_rule.specs.declared.key.Key.{Key}
use Rattle.vsd_trails.specs.Programs.{Fields, TrailStep, Asked, Program, bind, after_steps, Runs, onto, AtMost, AsksOnly, EachStep}
use Rattle.vsd_trails.specs.Logs.{Entry, Log, IsLog}
use Rattle.vsd_trails.specs.Operations.{Event, begun}

-- A list of steps is a run to at most one answer.
abbrev pub HasOneAnswer : (A : Type 0) → Program A → Type 0
HasOneAnswer A p = (k : Key) (f : Fields) (xs : List TrailStep) (a b : A) → Runs k f p xs a → Runs k f p xs b → a ≡ b

-- What begins with a whole run and goes on is no whole run.
abbrev pub EndsOnce : (A : Type 0) → Program A → Type 0
EndsOnce A p = (k : Key) (f : Fields) (xs : List TrailStep) (y : TrailStep) (ys : List TrailStep) (a b : A) → Runs k f p xs a → Runs k f p (xs ++ y ∷ ys) b → ⊥

-- A run, and a run of what follows by its answer, are a run of both.
abbrev pub Joins : (A B : Type 0) → Program A → (A → Program B) → Type 0
Joins A B p g = (k : Key) (f : Fields) (xs ys : List TrailStep) (a : A) (b : B) → Runs k f p xs a → Runs k (after_steps k f xs) (g a) ys b → Runs k f (bind p g) (xs ++ ys) b

-- a run in two parts
pub record TwoRuns (A B : Type 0) (k : Key) (f : Fields) (p : Program A) (g : A → Program B) (zs : List TrailStep) (b : B) : Type 0 where
  pub prefix : List TrailStep
  pub rest : List TrailStep
  pub answer : A
  pub whole : zs ≡ prefix ++ rest
  pub first : Runs k f p prefix answer
  pub second : Runs k (after_steps k f prefix) (g answer) rest b

-- Each run of both is a run of the one and then of the other.
abbrev pub Splits : (A B : Type 0) → Program A → (A → Program B) → Type 0
Splits A B p g = (k : Key) (f : Fields) (zs : List TrailStep) (b : B) → Runs k f (bind p g) zs b → TwoRuns A B k f p g zs b

-- A bound by the program is a bound of its runs.
abbrev pub IsBounded : (A : Type 0) → Program A → Type 0
IsBounded A p = (n : ℕ) (k : Key) (f : Fields) (xs : List TrailStep) (a : A) → AtMost n p → Runs k f p xs a → length xs ≤ n

-- What a program asks for alone is what its runs have alone.
abbrev pub MakesOnly : (A : Type 0) → (Asked → Type 0) → Program A → Type 0
MakesOnly A P p = (k : Key) (f : Fields) (xs : List TrailStep) (a : A) → AsksOnly P p → Runs k f p xs a → EachStep P xs

-- ---- the log

-- A list of steps has at most one log.
abbrev pub HasOneLog : Key → Type 0
HasOneLog k = (xs : List TrailStep) (a b : Log Event) → IsLog Event k (begun k) xs a → IsLog Event k (begun k) xs b → a ≡ b

-- the steps, the latest first, have this log, and none is unfinished
abbrev pub HasLog : Key → List TrailStep → List (Entry Event) → Type 0
HasLog k xs entries = IsLog Event k (begun k) xs (record { entries = entries; unfinished = [] })

-- A whole trail adds one entry: what was done and answered, the trail, and the fields at which it began.
abbrev pub AddsEntry : (A : Type 0) → Key → Program A → (A → Event) → Type 0
AddsEntry A k p event = (f : Fields) (trail : List TrailStep) (answer : A) (entries : List (Entry Event)) (old : List TrailStep)
    → HasLog k old entries → Runs k f p trail answer
    → HasLog k (onto trail old) (record { event = event answer; trail = trail; fields = f } ∷ entries)

-- A run by itself adds nothing.
abbrev pub AddsNothing : (A : Type 0) → Key → Program A → Type 0
AddsNothing A k p = (f : Fields) (trail : List TrailStep) (answer : A) (entries : List (Entry Event)) (old : List TrailStep)
    → HasLog k old entries → Runs k f p trail answer → HasLog k (onto trail old) entries

-- ---- bounds

abbrev pub TakesAtMost : (A : Type 0) → Key → Program A → ℕ → Type 0
TakesAtMost A k p n = (f : Fields) (trail : List TrailStep) (answer : A) → Runs k f p trail answer → length trail ≤ n
