-- What an operation adds to its caller's log.
use Rattle.std.specs.Prelude.{◌≡◌, ℕ, ◌≤◌, List, ◌∷◌, length}
use Rattle.vsd_rule.specs.declared.key.Key.{Key}
use Rattle.vsd_table.specs.declared.seated.Seated.{Seated}
use Rattle.vsd_trails.specs.Programs.{TrailStep, onto}
use Rattle.vsd_trails.specs.Logs.{Entry}
use Rattle.vsd_trails.specs.Operations.{Event}
use Rattle.vsd_trails.specs.Laws.{HasLog}
use Rattle.vsd_rows.specs.Makes.{steps_of, fields_of}

-- the caller's steps grew by one trail of at most so many, and its log by this one entry with the trail
pub record LogsOne (k : Key) (old new : Seated) (event : Event) (most : ℕ) : Type 0 where
  pub trail : List TrailStep
  pub made : steps_of new ≡ onto trail (steps_of old)
  pub few : length trail ≤ most
  pub logged : (entries : List (Entry Event)) → HasLog k (steps_of old) entries → HasLog k (steps_of new) (record { event = event; trail = trail; fields = fields_of old } ∷ entries)
