-- A stage that gives, and one that refuses.
use Rattle.std.proofs.Common.{◌≡◌, Result, Ok, Err, refl, ap, subst, ◌∙◌, inl, inr, ⊎_elim}
use Rattle.vsd_stages.specs.Endings.{Ending, accepted, refused, Stage}
use Rattle.vsd_stages.specs.Settling.{IsOneEnding, Settles}
use Rattle.vsd_stages.specs.declared.prepared.Prepared.{Prepared}
use Rattle.vsd_stages.specs.declared.stopping.Stopped.{Stopped}
use Rattle.vsd_stages.specs.declared.stopping.Stopped.TheVariants.{Refused, Memory}
use Rattle.vsd_refusals.specs.declared.refusal.Refusal.{Refusal}

module _ (A : Type 0) (Gives : A → Type 0) (Refuses : Refusal → Type 0) (Rest : A → Ending → Type 0) where
  passes : (a : A) → Gives a → ((b : A) → Gives b → b ≡ a) → ((r : Refusal) → Refuses r → ⊥) → (ending : Ending)
      → IsOneEnding (Rest a) ending → IsOneEnding (Stage Gives Refuses Rest) ending
  passes a gives one never ending rest = record {
    found = inl (a, gives, rest.found);
    only = λ other ends. ⊎_elim (λ (b, given, after). rest.only other (subst (λ x. Rest x other) (one b given) after)) (λ (r, refuses, is). absurd (never r refuses)) ends;
  }

  -- what the rest settles is settled
  pub settles_on : (a : A) → Gives a → ((b : A) → Gives b → b ≡ a) → ((r : Refusal) → Refuses r → ⊥) → (result : Result Prepared Stopped)
      → Settles (Rest a) result → Settles (Stage Gives Refuses Rest) result
  settles_on a gives one never (Ok p) rest = (rest.0, passes a gives one never _ rest.1)
  settles_on a gives one never (Err (Refused r)) rest = passes a gives one never _ rest
  settles_on a gives one never (Err Memory) rest = tt

  -- a stage that refuses settles the text
  pub settles_here : (r : Refusal) → Refuses r → ((s : Refusal) → Refuses s → s ≡ r) → ((a : A) → Gives a → ⊥)
      → IsOneEnding (Stage Gives Refuses Rest) (refused r)
  settles_here r refuses one never = record {
    found = inr (r, refuses, refl);
    only = λ other ends. ⊎_elim (λ (a, gives, after). absurd (never a gives)) (λ (s, again, is). is ∙ ap refused (one s again)) ends;
  }
