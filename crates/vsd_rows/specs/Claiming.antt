-- What the steps of a claim that was given no row show of the rows that it tried.
use Rattle.std.specs.Prelude.{◌≡◌, ◌≢◌, ◌⊎◌, ◌<◌, ℕ, zero, suc, min, List, [], ◌∷◌}
use Rattle.vsd_rule.specs.declared.key.Key.{Key}
use Rattle.vsd_rule.specs.declared.step.Act.TheVariants.{Claim, LoadRow}
use Rattle.vsd_rule.specs.declared.step.RowWord.TheVariants as word
use Rattle.vsd_rule.specs.RowSteps.{next_row}
use Rattle.vsd_table.specs.declared.seated.Seated.{Seated}
use Rattle.vsd_trails.specs.Programs.{TrailStep, onto}
use Rattle.vsd_trails.specs.CallPaths.{InTurn}
use Rattle.vsd_rows.specs.Makes.{steps_of}

-- the row was loaded as claimed; or it was loaded as free, and the exchange right after found it claimed
pub record WasClaimed (trail : List TrailStep) (row : ℕ) : Type 0 where
  pub found : ℕ
  pub claimed : found ≢ 0
  pub shown : InTurn trail ((LoadRow row word.Claim, found) ∷ []) ⊎ InTurn trail ((LoadRow row word.Claim, 0) ∷ (Claim row, found) ∷ [])

-- the row that is so many rows after this one, round the end
abbrev pub row_after : Key → ℕ → ℕ → ℕ
row_after k zero row = row
row_after k (suc n) row = row_after k n (next_row k row)

-- each of the eight rows from this one on, or of all where there are fewer, was claimed when it was tried
pub record FoundClaimed (k : Key) (row : ℕ) (old new : Seated) : Type 0 where
  pub trail : List TrailStep
  pub made : steps_of new ≡ onto trail (steps_of old)
  pub each : (n : ℕ) → n < min 8 k.sizes.rows → WasClaimed trail (row_after k n row)
