-- Classes over closed types are whole, or the first that is refused.
use Rattle.std.proofs.Common.{◌≡◌, ℕ, List, Result, Ok, Err, refl, sym, ap, ◌∙◌}
use Rattle.vsd_terms.specs.declared.term.Term.{Term}
use Rattle.vsd_ast.specs.declared.declarations.Decls.{Decls}
use Rattle.vsd_ast.specs.declared.scripts.Script.{Script}
use Rattle.vsd_lines.proofs.Once.{one_text}
use Rattle.vsd_compat.specs.Compatibility.{IsCompatible}
use Rattle.vsd_itable.proofs.SelectLaws.{selection-only}
use Rattle.vsd_itable.specs.Refusals.{IsRefused}
use Rattle.vsd_itable.specs.declared.error.BuildError.{BuildError}
use Rattle.vsd_itable.specs.declared.error.BuildError.TheVariants.{MissingImplementation, TooManySlots, Memory}
use Rattle.vsd_refusals.specs.declared.refusal.Refusal.TheVariants.{Build}
use Rattle.vsd_stages.specs.Answered.{AreAnswers, IsSaid, said_of}
use Rattle.vsd_stages.specs.Endings.{Ending, accepted, refused}
use Rattle.vsd_stages.specs.Settling.{IsOneEnding, IsWritable, Settles, bytes_of}
use Rattle.vsd_stages.specs.Stages.{Answers, AreWhole, Builds, IsBuildRefusal, closed_over}
use Rattle.vsd_stages.specs.Stopping.{stopped_build}
use Rattle.vsd_stages.specs.declared.prepared.Prepared.{Prepared}
use Rattle.vsd_stages.specs.declared.stopping.Stopped.{Stopped}
use Rattle.vsd_stages.proofs.Endings.{settles_on, settles_here}
use Rattle.vsd_stages.proofs.OneRefusal.{one_refusal, passes_refused}

module _ (d : Decls) (s : Script) where
  -- a call says one thing
  one_said : (t j : Term) (m : ℕ) (a b : List ℕ) → IsSaid d t j m a → IsSaid d t j m b → a ≡ b
  one_said t j m a b is again = is.said_is ∙ ap (said_of d j m) (selection-only d.list t j m is.found again.found is.selected again.selected) ∙ sym again.said_is

  -- answers are the only ones
  one_answers : (answers : List ℕ) → AreAnswers d s answers → (other : Ending) → Answers d s other → other ≡ accepted answers
  unfolding Answers AreAnswers
  one_answers answers are (accepted others) again = ap accepted (one_text (IsSaid d) (IsCompatible d.list) s one_said others answers again are)
  one_answers answers are (refused r) again = absurd again

  pub answers_settle : (answers : List ℕ) → AreAnswers d s answers → IsOneEnding (Answers d s) (accepted answers)
  unfolding Answers
  answers_settle answers are = record { found = are; only = one_answers answers are }

  module _ (types : List Term) where
    build_here : (e : BuildError) → (e ≡ Memory → ⊥) → IsRefused (closed_over d types) e → IsOneEnding (Builds d s types) (refused (Build e))
    unfolding Builds
    build_here e real is =
        settles_here (Unit {0}) (λ u. AreWhole (closed_over d types)) (IsBuildRefusal (closed_over d types)) (λ u. Answers d s) (Build e)
        (record { error = e; real = real; first = is; is = refl })
        (λ r again. again.is ∙ ap Build (one_refusal (closed_over d types) again.error e again.real real again.first is))
        (λ u whole. passes_refused (closed_over d types) whole e real is)

    pub build_stops : (e : BuildError) → IsRefused (closed_over d types) e → Settles (Builds d s types) (Err (stopped_build e))
    build_stops (MissingImplementation line class interface method) is = build_here (MissingImplementation line class interface method) (λ same. absurd cc) is
    build_stops (TooManySlots line) is = build_here (TooManySlots line) (λ same. absurd cc) is
    build_stops Memory is = tt

    pub build_gives : AreWhole (closed_over d types) → (p : Prepared) → IsWritable p → AreAnswers d s (bytes_of p) → Settles (Builds d s types) (Ok p)
    unfolding Builds
    build_gives whole p can are =
        settles_on (Unit {0}) (λ u. AreWhole (closed_over d types)) (IsBuildRefusal (closed_over d types)) (λ u. Answers d s) tt whole (λ u again. refl)
        (λ r refuses. passes_refused (closed_over d types) whole refuses.error refuses.real refuses.first) (Ok p) (can, answers_settle (bytes_of p) are)
