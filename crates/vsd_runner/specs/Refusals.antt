-- What is said of how a run ends.
use Rattle.std.specs.Prelude.{ℕ, Bool, true, is_some}
use Rattle.vsd_refusals.specs.Lines.{refusal_line}
use Rattle.vsd_runner.specs.declared.statuses.Status.{Status}
use Rattle.vsd_runner.specs.declared.statuses.Status.TheVariants.{Done, Words, Refused, ReadFault, WriteFault, Memory}

-- a refusal that a status carries has a line
abbrev pub is_sound : Status → Bool
is_sound (Refused refusal) = is_some (refusal_line refusal)
is_sound _ = true

-- the exit status of the program
abbrev pub number_of : Status → ℕ
number_of Done = 0
number_of Words = 2
number_of (Refused refusal) = 3
number_of ReadFault = 4
number_of WriteFault = 5
number_of Memory = 6
