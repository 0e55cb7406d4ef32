-- How a run ends.
use Rattle.std.specs.Prelude.{◌≡◌, ◌⊎◌, ℕ, ◌+◌, List, length, take, Option, Some, option_map}
use Rattle.std.specs.Io.KnownBytes.{prepend_known, append_known, IsAtEnd}
use Rattle.vsd_text.specs.Tokens.{text_limit}
use Rattle.vsd_outside.specs.Pieces.{TakesPart}
use Rattle.vsd_outside.specs.Reading.{GivesUpTo}
use Rattle.vsd_runner.specs.Command.{IsCommand, words_line}
use Rattle.vsd_lines.specs.Moving.{Front}
use Rattle.vsd_refusals.specs.Lines.{refusal_line}
use Rattle.vsd_refusals.specs.declared.refusal.Refusal.{Refusal}
use Rattle.vsd_runner.specs.Answers.{IsText, IsRefused, IsAnswer}
use Rattle.vsd_runner.specs.declared.statuses.Status.{Status}
use Rattle.vsd_runner.specs.declared.statuses.Status.TheVariants.{Words, ReadFault, WriteFault, Memory}

-- how many bytes are read at most: one more than a text may have
abbrev pub read_limit : ℕ
read_limit = text_limit + 1

-- the text that is read, where the source tells its bytes: all of them, or as many as are read at most
abbrev pub text_read : Option (List ℕ) → Option (List ℕ)
text_read left = option_map (take read_limit) left

-- the words and the text define this status, and these bytes to be written
abbrev pub Defines : List (List ℕ) → List ℕ → Status → List ℕ → Type 0
Defines words text Words bytes = (¬ IsCommand words) × (bytes ≡ words_line)
Defines words text status bytes = IsCommand words × IsAnswer text status bytes

-- the run ended with this status, and the sink took these bytes; or the run ended with a fault or want of memory in their place
abbrev pub EndsAs : Option (List ℕ) → Option (List ℕ) → Status → List ℕ → Status → Type 0
EndsAs taken_old taken_new status bytes ReadFault = Unit {0}
EndsAs taken_old taken_new status bytes WriteFault = Unit {0}
EndsAs taken_old taken_new status bytes Memory = Unit {0}
EndsAs taken_old taken_new status bytes other = (other ≡ status) × (taken_new ≡ append_known taken_old bytes)

-- the source counted a fault at the status that tells it, and at every other status none
abbrev pub ReadCounted : Type 0 → Type 0 → Status → Type 0
ReadCounted rose same ReadFault = rose
ReadCounted rose same other = same

-- the sink counted a fault at the status that tells it, and at every other status none
abbrev pub WriteCounted : Type 0 → Type 0 → Status → Type 0
WriteCounted rose same WriteFault = rose
WriteCounted rose same other = same

module _ (words : List (List ℕ)) (left_old left_new taken_old taken_new : Option (List ℕ)) where
  -- the words are the command, the source gave a text up to its end, the text is accepted, and the sink
  -- took exactly its answers: it has no others
  pub record Headline : Type 0 where
    pub command : IsCommand words
    pub text : List ℕ
    pub answers : List ℕ
    pub given : left_old ≡ prepend_known text left_new
    pub at_end : IsAtEnd left_new
    pub accepted : IsText text answers
    pub only : (others : List ℕ) → IsText text others → others ≡ answers
    pub taken : taken_new ≡ append_known taken_old answers

  -- the words are the command, this is the first refusal of the text that the source gave, and the sink
  -- took exactly its line
  pub record Refuses (refusal : Refusal) : Type 0 where
    pub command : IsCommand words
    pub text : List ℕ
    pub line : List ℕ
    pub given : GivesUpTo read_limit left_old left_new text
    pub refused : IsRefused text refusal
    pub said : refusal_line refusal ≡ Some line
    pub taken : taken_new ≡ append_known taken_old line

  -- the sink took a prefix of what the words and the text that the source gave define, and not all
  pub record CutShort : Type 0 where
    pub text : List ℕ
    pub status : Status
    pub bytes : List ℕ
    pub given : IsCommand words → GivesUpTo read_limit left_old left_new text
    pub defined : Defines words text status bytes
    pub taken : TakesPart taken_old taken_new bytes

  -- memory was out while the answers of an accepted text were written: the sink took a first part of them
  pub record Interrupted : Type 0 where
    pub text : List ℕ
    pub answers : List ℕ
    pub given : GivesUpTo read_limit left_old left_new text
    pub accepted : IsText text answers
    pub part : Front taken_old taken_new answers

  -- What a run was to write. That the source wasn't read, that nothing was written, and that the sink wasn't sure of room for so
  -- many bytes are facts that come from outside.
  module _ (unread unwritten : Type 0) (lacks_room : ℕ → Type 0) where
    pub record Wanted (text : List ℕ) (status : Status) (bytes : List ℕ) : Type 0 where
      pub given : IsCommand words → GivesUpTo read_limit left_old left_new text
      pub skipped : ¬ IsCommand words → unread
      pub defined : Defines words text status bytes
      pub only : (other : Status) (others : List ℕ) → Defines words text other others → (other ≡ status) × (others ≡ bytes)

    -- how a run ended
    abbrev pub Outcome : Status → Type 0
    Outcome ReadFault = IsCommand words × unwritten
    Outcome Memory = IsCommand words × (unwritten ⊎ Interrupted)
    Outcome WriteFault =
        (text : List ℕ) × (status : Status) × (bytes : List ℕ) × Wanted text status bytes × TakesPart taken_old taken_new bytes × lacks_room (length bytes)
    Outcome status = (text : List ℕ) × (bytes : List ℕ) × Wanted text status bytes × (taken_new ≡ append_known taken_old bytes)
