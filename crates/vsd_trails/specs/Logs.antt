-- The log of a view: what its steps come to, as whole trails of operations.
use Rattle.std.specs.Prelude.{◌≡◌, List, [], ◌∷◌, ◌++◌, Option, Some, None}
use Rattle.vsd_rule.specs.declared.key.Key.{Key}
use Rattle.vsd_trails.specs.Programs.{Fields, TrailStep, Asked, Program, asked_of, fields_at, Runs}

-- an operation that ended: what it was and answered, its trail, and the fields recorded with its first step
pub record Entry (E : Type 0) : Type 0 where
  pub event : E
  pub trail : List TrailStep
  pub fields : Fields

-- the operations that ended, the latest first, and the steps since, the first one first
pub record Log (E : Type 0) : Type 0 where
  pub entries : List (Entry E)
  pub unfinished : List TrailStep

abbrev pub empty_log : {E : Type 0} → Log E
empty_log = record { entries = []; unfinished = [] }

-- the step that begins what is unfinished, after a step was added
abbrev pub first_of : List TrailStep → TrailStep → TrailStep
first_of [] x = x
first_of (y ∷ ys) x = y

module _ (E : Type 0) (k : Key) (begun : Asked → Option (Program E)) where
  -- nothing is unfinished and the step begins nothing
  pub record PassesOver (before : Log E) (x : TrailStep) (after : Log E) : Type 0 where
    pub nothing : before.unfinished ≡ []
    pub begins : begun (asked_of x) ≡ None
    pub same : after ≡ before

  -- with the step the unfinished ones are a whole trail of what their first one began
  pub record Finishes (before : Log E) (x : TrailStep) (after : Log E) : Type 0 where
    pub program : Program E
    pub event : E
    pub begins : begun (asked_of (first_of before.unfinished x)) ≡ Some program
    pub whole : Runs k (fields_at (first_of before.unfinished x)) program (before.unfinished ++ x ∷ []) event
    pub added : after ≡ record {
      entries = record { event = event; trail = before.unfinished ++ x ∷ []; fields = fields_at (first_of before.unfinished x) } ∷ before.entries;
      unfinished = [];
    }

  -- with the step they are no whole trail of it, whatever the answer
  pub record GoesOn (before : Log E) (x : TrailStep) (after : Log E) : Type 0 where
    pub program : Program E
    pub begins : begun (asked_of (first_of before.unfinished x)) ≡ Some program
    pub unfinished : (event : E) → Runs k (fields_at (first_of before.unfinished x)) program (before.unfinished ++ x ∷ []) event → ⊥
    pub added : after ≡ record { entries = before.entries; unfinished = before.unfinished ++ x ∷ [] }

  -- what a step makes of the log
  pub data Adds (before : Log E) (x : TrailStep) (after : Log E) : Type 0 where
    passes_over : PassesOver before x after → Adds before x after
    finishes : Finishes before x after → Adds before x after
    goes_on : GoesOn before x after → Adds before x after

  -- the steps, the latest first, have this log
  abbrev pub IsLog : List TrailStep → Log E → Type 0
  IsLog [] log = log ≡ empty_log
  IsLog (x ∷ xs) log = (before : Log E) × IsLog xs before × Adds before x log
