-- What was written for a text.
use Rattle.std.specs.Prelude.{◌≡◌, ◌⊎◌, ℕ, List, length, Option}
use Rattle.std.specs.Io.KnownBytes.{append_known}
use Rattle.vsd_lines.specs.Moving.{Front}
use Rattle.vsd_outside.specs.Pieces.{TakesPart}
use Rattle.vsd_runner.specs.Answers.{IsAnswer, IsText}
use Rattle.vsd_runner.specs.declared.statuses.Status.{Status}
use Rattle.vsd_runner.specs.declared.statuses.Status.TheVariants.{Words, ReadFault, WriteFault, Memory}

-- a text has this status and these bytes to be written, and no others
pub record IsOneAnswer (text : List ℕ) (status : Status) (bytes : List ℕ) : Type 0 where
  pub found : IsAnswer text status bytes
  pub only : (other : Status) (others : List ℕ) → IsAnswer text other others → (other ≡ status) × (others ≡ bytes)

module _ (text : List ℕ) (taken_old taken_new : Option (List ℕ)) (unwritten : Type 0) (lacks_room : ℕ → Type 0) where
  -- a first part of the answers was taken
  pub record TakesFront : Type 0 where
    pub answers : List ℕ
    pub accepted : IsText text answers
    pub part : Front taken_old taken_new answers

  -- how writing ended
  abbrev pub Writes : Status → Type 0
  Writes Words = ⊥
  Writes ReadFault = ⊥
  Writes WriteFault = (status : Status) × (bytes : List ℕ) × IsOneAnswer text status bytes × TakesPart taken_old taken_new bytes × lacks_room (length bytes)
  Writes Memory = unwritten ⊎ TakesFront
  Writes status = (bytes : List ℕ) × IsOneAnswer text status bytes × (taken_new ≡ append_known taken_old bytes)
