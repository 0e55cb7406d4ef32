-- What a text answers.
use Rattle.std.specs.Prelude.{◌≡◌, ℕ, List, Some}
use Rattle.vsd_refusals.specs.Lines.{refusal_line}
use Rattle.vsd_refusals.specs.declared.refusal.Refusal.{Refusal}
use Rattle.vsd_stages.specs.Endings.{accepted, refused}
use Rattle.vsd_stages.specs.Stages.{Ends}
use Rattle.vsd_runner.specs.declared.statuses.Status.{Status}
use Rattle.vsd_runner.specs.declared.statuses.Status.TheVariants.{Done, Refused}

-- the text is accepted, and these are its answers
abbrev pub IsText : List ℕ → List ℕ → Type 0
IsText text answers = Ends text (accepted answers)

-- this is the text's first refusal
abbrev pub IsRefused : List ℕ → Refusal → Type 0
IsRefused text refusal = Ends text (refused refusal)

-- the status of a text, and what is written for it
abbrev pub IsAnswer : List ℕ → Status → List ℕ → Type 0
IsAnswer text Done bytes = IsText text bytes
IsAnswer text (Refused refusal) bytes = IsRefused text refusal × (refusal_line refusal ≡ Some bytes)
IsAnswer text _ bytes = ⊥
