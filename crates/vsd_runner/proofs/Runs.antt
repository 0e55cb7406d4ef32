-- What an outcome says of a run.
use Rattle.std.proofs.Common.{◌≡◌, ◌≢◌, ℕ, ◌⊎◌, inl, inr, ⊎_elim, List, length, Option, Some, refl, sym, ap, subst, ◌∙◌, arith}
use Rattle.std.specs.Io.KnownBytes.{append_known}
use Rattle.vsd_outside.specs.Reading.{GivesUpTo}
use Rattle.vsd_runner.specs.Command.{IsCommand}
use Rattle.vsd_runner.specs.Answers.{IsAnswer}
use Rattle.vsd_runner.specs.Written.{Writes}
use Rattle.vsd_runner.specs.Outcomes.{read_limit, text_read, Defines, EndsAs, ReadCounted, WriteCounted, Headline, Wanted, Outcome}
use Rattle.vsd_runner.specs.declared.statuses.Status.{Status}
use Rattle.vsd_runner.specs.declared.statuses.Status.TheVariants.{Done, Words, Refused, ReadFault, WriteFault, Memory}
use Rattle.vsd_runner.proofs.Answering.{short_of_accepted}
use Rattle.vsd_runner.proofs.Texts.{read_same}

module _ (words : List (List ℕ)) where
  -- where the words are the command, what a text answers is defined, and nothing else is
  pub defined_by_answer : (text : List ℕ) (status : Status) (bytes : List ℕ) → IsCommand words → IsAnswer text status bytes → Defines words text status bytes
  defined_by_answer text Done bytes command answer = (command, answer)
  defined_by_answer text (Refused refusal) bytes command answer = (command, answer)
  defined_by_answer text Words bytes command answer = absurd answer
  defined_by_answer text ReadFault bytes command answer = (command, answer)
  defined_by_answer text WriteFault bytes command answer = (command, answer)
  defined_by_answer text Memory bytes command answer = (command, answer)

  pub answer_by_defined : (text : List ℕ) (status : Status) (bytes : List ℕ) → IsCommand words → Defines words text status bytes → IsAnswer text status bytes
  answer_by_defined text Done bytes command defined = defined.1
  answer_by_defined text (Refused refusal) bytes command defined = defined.1
  answer_by_defined text Words bytes command defined = absurd (defined.0 command)
  answer_by_defined text ReadFault bytes command defined = defined.1
  answer_by_defined text WriteFault bytes command defined = defined.1
  answer_by_defined text Memory bytes command defined = defined.1

  -- words that are no command are answered alike over every text
  pub defined_over : (text other : List ℕ) (status : Status) (bytes : List ℕ) → (IsCommand words → text ≡ other) → Defines words text status bytes → Defines words other status bytes
  defined_over text other Words bytes same defined = defined
  defined_over text other Done bytes same defined = subst (λ t. Defines words t Done bytes) (same defined.0) defined
  defined_over text other (Refused refusal) bytes same defined = subst (λ t. Defines words t (Refused refusal) bytes) (same defined.0) defined
  defined_over text other ReadFault bytes same defined = (defined.0, absurd defined.1)
  defined_over text other WriteFault bytes same defined = (defined.0, absurd defined.1)
  defined_over text other Memory bytes same defined = (defined.0, absurd defined.1)

module _ (words : List (List ℕ)) (left_old left_new taken_old taken_new : Option (List ℕ)) (unread unwritten : Type 0) (lacks_room : ℕ → Type 0) where
  abbrev ToWrite : List ℕ → Status → List ℕ → Type 0
  ToWrite text status bytes = Wanted words left_old left_new taken_old taken_new unread unwritten lacks_room text status bytes

  abbrev EndedSo : Status → Type 0
  EndedSo status = Outcome words left_old left_new taken_old taken_new unread unwritten lacks_room status

  -- what is to be written after a text was read and answered
  pub wanted_for : (text : List ℕ) (status : Status) (bytes : List ℕ) → IsCommand words → GivesUpTo read_limit left_old left_new text
      → IsAnswer text status bytes → ((other : Status) (others : List ℕ) → IsAnswer text other others → (other ≡ status) × (others ≡ bytes))
      → ToWrite text status bytes
  wanted_for text status bytes command given answer only = record {
    given = λ _. given;
    skipped = λ bad. absurd (bad command);
    defined = defined_by_answer words text status bytes command answer;
    only = λ other others defined. only other others (answer_by_defined words text other others command defined);
  }

  -- all that was to be written was taken
  pub written : (status : Status) (text bytes : List ℕ) → ToWrite text status bytes → taken_new ≡ append_known taken_old bytes → EndedSo status
  written Done text bytes wanted taken = (text, bytes, wanted, taken)
  written (Refused refusal) text bytes wanted taken = (text, bytes, wanted, taken)
  written Words text bytes wanted taken = (text, bytes, wanted, taken)
  written ReadFault text bytes wanted taken = absurd wanted.defined.1
  written WriteFault text bytes wanted taken = absurd wanted.defined.1
  written Memory text bytes wanted taken = absurd wanted.defined.1

  -- how a run over a text that was read ended, from how writing for it ended
  pub outcome_of : (status : Status) (text : List ℕ) → IsCommand words → GivesUpTo read_limit left_old left_new text
      → Writes text taken_old taken_new unwritten lacks_room status → EndedSo status
  outcome_of Done text command given (bytes, one, taken) = (text, bytes, wanted_for text Done bytes command given one.found one.only, taken)
  outcome_of (Refused r) text command given (bytes, one, taken) = (text, bytes, wanted_for text (Refused r) bytes command given one.found one.only, taken)
  outcome_of WriteFault text command given (status, bytes, one, part, lacks) = (text, status, bytes, wanted_for text status bytes command given one.found one.only, part, lacks)
  outcome_of Memory text command given wrote = (
    command,
    ⊎_elim (λ unwrote. inl unwrote) (λ front. inr (record { text = text; answers = front.answers; given = given; accepted = front.accepted; part = front.part })) wrote,
  )
  outcome_of Words text command given wrote = absurd wrote
  outcome_of ReadFault text command given wrote = absurd wrote

  headline_of : EndedSo Done → Headline words left_old left_new taken_old taken_new
  headline_of (text, bytes, wanted, taken) =
      let accepted = wanted.defined.1 in
      let given = wanted.given wanted.defined.0 in
      let short = short_of_accepted text bytes accepted in
      record {
        command = wanted.defined.0;
        text = text;
        answers = bytes;
        given = given.given;
        at_end = given.whole (omega arith);
        accepted = accepted;
        only = λ others read. (wanted.only Done others (wanted.defined.0, read)).1;
        taken = taken;
      }

  pub headline_at : (status : Status) → EndedSo status → status ≡ Done → Headline words left_old left_new taken_old taken_new
  headline_at status ended is = headline_of (subst EndedSo is ended)

  module _ (told : List ℕ) (other : Status) (others : List ℕ) (is : text_read left_old ≡ Some told) (defined : Defines words told other others) where
    -- what the words and the text that the source tells define is what was to be written
    wanted_same : (text : List ℕ) (status : Status) (bytes : List ℕ) → ToWrite text status bytes → (other ≡ status) × (others ≡ bytes)
    wanted_same text status bytes wanted =
        wanted.only other others
        (defined_over words told text other others (λ command. read_same read_limit left_old left_new text told (wanted.given command) is) defined)

    -- all that was to be written, where it was written, is what is defined
    taken_as_defined : (status : Status) (text bytes : List ℕ) → ToWrite text status bytes → taken_new ≡ append_known taken_old bytes
        → (status ≡ other) × (taken_new ≡ append_known taken_old others)
    taken_as_defined status text bytes wanted taken =
        let same = wanted_same text status bytes wanted in
        (sym same.0, taken ∙ ap (append_known taken_old) (sym same.1))

    pub ends_as_defined : (status : Status) → EndedSo status → EndsAs taken_old taken_new other others status
    ends_as_defined Done (text, bytes, wanted, taken) = taken_as_defined Done text bytes wanted taken
    ends_as_defined (Refused refusal) (text, bytes, wanted, taken) = taken_as_defined (Refused refusal) text bytes wanted taken
    ends_as_defined Words (text, bytes, wanted, taken) = taken_as_defined Words text bytes wanted taken
    ends_as_defined ReadFault ended = tt
    ends_as_defined WriteFault ended = tt
    ends_as_defined Memory ended = tt

    -- a sink that has room for what is defined took what was to be written
    pub room_suffices : (lacks_room (length others) → ⊥) → (status : Status) → EndedSo status → status ≡ WriteFault → ⊥
    room_suffices room status ended is =
        let (text, wanted_status, bytes, wanted, taken, lacks) = subst EndedSo is ended in
        room (subst (λ size. lacks_room size) (sym (ap length (wanted_same text wanted_status bytes wanted).1)) lacks)

-- what is defined came, or want of memory, where no fault came
pub unless_fault : (taken_old taken_new : Option (List ℕ)) (other : Status) (others : List ℕ) (status : Status) → EndsAs taken_old taken_new other others status
    → status ≢ ReadFault → status ≢ WriteFault → ((status ≡ other) × (taken_new ≡ append_known taken_old others)) ⊎ (status ≡ Memory)
unless_fault taken_old taken_new other others Done ended no_read no_write = inl ended
unless_fault taken_old taken_new other others (Refused refusal) ended no_read no_write = inl ended
unless_fault taken_old taken_new other others Words ended no_read no_write = inl ended
unless_fault taken_old taken_new other others ReadFault ended no_read no_write = absurd (no_read refl)
unless_fault taken_old taken_new other others WriteFault ended no_read no_write = absurd (no_write refl)
unless_fault taken_old taken_new other others Memory ended no_read no_write = inr refl

-- a count that rose is told
pub read_told : (rose same : Type 0) → (¬ same) → (status : Status) → ReadCounted rose same status → status ≡ ReadFault
read_told rose same risen ReadFault counted = refl
read_told rose same risen WriteFault counted = absurd (risen counted)
read_told rose same risen Done counted = absurd (risen counted)
read_told rose same risen Words counted = absurd (risen counted)
read_told rose same risen (Refused refusal) counted = absurd (risen counted)
read_told rose same risen Memory counted = absurd (risen counted)

pub write_told : (rose same : Type 0) → (¬ same) → (status : Status) → WriteCounted rose same status → status ≡ WriteFault
write_told rose same risen WriteFault counted = refl
write_told rose same risen ReadFault counted = absurd (risen counted)
write_told rose same risen Done counted = absurd (risen counted)
write_told rose same risen Words counted = absurd (risen counted)
write_told rose same risen (Refused refusal) counted = absurd (risen counted)
write_told rose same risen Memory counted = absurd (risen counted)
