-- A text that ends in one way has one answer.
use Rattle.std.proofs.Common.{◌≡◌, ℕ, ◌≤◌, List, length, Some, refl, sym, ap, subst, ◌∙◌, ⊎_elim}
use Rattle.vsd_refusals.specs.Lines.{refusal_line}
use Rattle.vsd_refusals.specs.declared.refusal.Refusal.{Refusal}
use Rattle.vsd_stages.specs.Endings.{Ending, accepted, refused}
use Rattle.vsd_stages.specs.Settling.{IsOneEnding}
use Rattle.vsd_stages.specs.Stages.{Ends}
use Rattle.vsd_text.specs.Tokens.{text_limit}
use Rattle.vsd_runner.specs.Answers.{IsAnswer, IsText}
use Rattle.vsd_runner.specs.Written.{IsOneAnswer}
use Rattle.vsd_runner.specs.declared.statuses.Status.{Status}
use Rattle.vsd_runner.specs.declared.statuses.Status.TheVariants.{Done, Words, Refused, ReadFault, WriteFault, Memory}
use Rattle.vsd_runner.proofs.Texts.{short_of_lexed}

-- what an ending tells
abbrev answers_in : List ℕ → Ending → List ℕ
answers_in other (accepted answers) = answers
answers_in other (refused r) = other

abbrev refusal_in : Refusal → Ending → Refusal
refusal_in other (accepted answers) = other
refusal_in other (refused r) = r

abbrev IsRefusing : Ending → Type 0
IsRefusing (accepted answers) = ⊥
IsRefusing (refused r) = Unit {0}

apart : (answers : List ℕ) (r : Refusal) → refused r ≡ accepted answers → ⊥
apart answers r same = subst IsRefusing same tt

module _ (text : List ℕ) where
  done_only : (answers : List ℕ) → IsOneEnding (Ends text) (accepted answers) → (other : Status) (others : List ℕ) → IsAnswer text other others → (other ≡ Done) × (others ≡ answers)
  done_only answers one Done others read = (refl, ap (answers_in others) (one.only (accepted others) read))
  done_only answers one (Refused r) others read = absurd (apart answers r (one.only (refused r) read.0))
  done_only answers one Words others read = absurd read
  done_only answers one ReadFault others read = absurd read
  done_only answers one WriteFault others read = absurd read
  done_only answers one Memory others read = absurd read

  pub one_done : (answers : List ℕ) → IsOneEnding (Ends text) (accepted answers) → IsOneAnswer text Done answers
  one_done answers one = record { found = one.found; only = done_only answers one }

  same_line : (r q : Refusal) (line others : List ℕ) → refusal_line r ≡ Some line → q ≡ r → refusal_line q ≡ Some others → others ≡ line
  same_line r q line others says same again = let both : Some others ≡ Some line = sym again ∙ ap refusal_line same ∙ says in cc

  refused_only : (r : Refusal) (line : List ℕ) → refusal_line r ≡ Some line → IsOneEnding (Ends text) (refused r) → (other : Status) (others : List ℕ)
      → IsAnswer text other others → (other ≡ Refused r) × (others ≡ line)
  refused_only r line says one Done others read = absurd (apart others r (sym (one.only (accepted others) read)))
  refused_only r line says one (Refused q) others read =
      let same : q ≡ r = ap (refusal_in q) (one.only (refused q) read.0) in
      (ap Refused same, same_line r q line others says same read.1)
  refused_only r line says one Words others read = absurd read
  refused_only r line says one ReadFault others read = absurd read
  refused_only r line says one WriteFault others read = absurd read
  refused_only r line says one Memory others read = absurd read

  pub one_refused : (r : Refusal) (line : List ℕ) → refusal_line r ≡ Some line → IsOneEnding (Ends text) (refused r) → IsOneAnswer text (Refused r) line
  one_refused r line says one = record { found = (one.found, says); only = refused_only r line says one }

  -- an accepted text isn't too long
  pub short_of_accepted : (answers : List ℕ) → IsText text answers → length text ≤ text_limit
  unfolding Ends
  short_of_accepted answers read =
      ⊎_elim (λ (tokens, lexed, rest). short_of_lexed text tokens lexed) (λ (r, refuses, is). absurd (apart answers r (sym is))) read
