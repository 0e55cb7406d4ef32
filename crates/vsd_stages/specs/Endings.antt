-- How a text ends, stage by stage.
use Rattle.std.specs.Prelude.{◌≡◌, ◌⊎◌, ℕ, List}
use Rattle.vsd_refusals.specs.declared.refusal.Refusal.{Refusal}

-- with its answers, or with its first refusal
pub data Ending : Type 0 where
  accepted : List ℕ → Ending
  refused : Refusal → Ending

-- A stage gives something, and the text ends as the rest of the stages has it from there; or the stage refuses the text.
abbrev pub Stage : {A : Type 0} → (A → Type 0) → (Refusal → Type 0) → (A → Ending → Type 0) → Ending → Type 0
Stage {A} Gives Refuses Rest ending = ((a : A) × Gives a × Rest a ending) ⊎ ((refusal : Refusal) × Refuses refusal × (ending ≡ refused refusal))
