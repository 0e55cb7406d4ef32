-- Declarations are lawful, or the first of what they show.
use Rattle.std.proofs.Common.{◌≡◌, ℕ, ◌≤◌, ◌<◌, List, Some, Result, Ok, Err, IfSome, refl, sym, ap, ◌∙◌, if◌then◌else◌, nat_eq, ⊎_elim, arith}
use Rattle.vsd_text.specs.declared.tokens.Token.{Token}
use Rattle.vsd_ast.specs.declared.declarations.Decls.{Decls}
use Rattle.vsd_check.specs.Conditions.{AreLawful, IsEarliest}
use Rattle.vsd_check.specs.Refusals.{refusal_of, number_of, pass_of, NoLater, ComesFirst}
use Rattle.vsd_check.specs.declared.refusal.Cause.{Cause}
use Rattle.vsd_check.specs.declared.refusal.Cause.TheVariants as cause
use Rattle.vsd_check.specs.declared.refusal.CheckError.{CheckError}
use Rattle.vsd_check.specs.declared.refusal.CheckError.TheVariants.{Twice, UnknownType, Arity, Cycle, BadBase, BadInterface, VarianceMisplaced, VariantClass, OverridesFinal, AbstractInConcrete, OverrideUnknown, OverrideTwice, Memory}
use Rattle.vsd_check.specs.declared.refusal.Shown.{Shown}
use Rattle.vsd_refusals.specs.declared.refusal.Refusal.TheVariants.{Check}
use Rattle.vsd_stages.specs.Endings.{refused}
use Rattle.vsd_stages.specs.Settling.{IsOneEnding, Settles}
use Rattle.vsd_stages.specs.Stages.{Checks, Scripts, IsCheckRefusal}
use Rattle.vsd_stages.specs.Stopping.{stopped_check}
use Rattle.vsd_stages.specs.declared.prepared.Prepared.{Prepared}
use Rattle.vsd_stages.specs.declared.stopping.Stopped.{Stopped}
use Rattle.vsd_stages.proofs.Endings.{settles_on, settles_here}

-- ---- no two causes have one number

abbrev cause_of : ℕ → Cause
cause_of n =
    if nat_eq n 30 then cause.Twice else if nat_eq n 31 then cause.UnknownType else if nat_eq n 32 then cause.Arity else if nat_eq n 33 then cause.Cycle
    else if nat_eq n 34 then cause.BadBase else if nat_eq n 35 then cause.BadInterface else if nat_eq n 36 then cause.VarianceMisplaced
    else if nat_eq n 37 then cause.VariantClass else if nat_eq n 38 then cause.OverridesFinal else if nat_eq n 39 then cause.AbstractInConcrete
    else if nat_eq n 40 then cause.OverrideUnknown else cause.OverrideTwice

numbered : (c : Cause) → cause_of (number_of c) ≡ c
numbered cause.Twice = refl
numbered cause.UnknownType = refl
numbered cause.Arity = refl
numbered cause.Cycle = refl
numbered cause.BadBase = refl
numbered cause.BadInterface = refl
numbered cause.VarianceMisplaced = refl
numbered cause.VariantClass = refl
numbered cause.OverridesFinal = refl
numbered cause.AbstractInConcrete = refl
numbered cause.OverrideUnknown = refl
numbered cause.OverrideTwice = refl

-- ---- no two are the earliest

abbrev shown_of : ℕ → ℕ → Shown
shown_of line number = record { line = line; cause = cause_of number }

again_of : (s : Shown) → shown_of s.line (number_of s.cause) ≡ s
again_of s = ap (λ c. record { line = s.line; cause = c }) (numbered s.cause)

same_place : (s t : Shown) → NoLater s t → NoLater t s → (s.line ≡ t.line) × (number_of s.cause ≡ number_of t.cause)
same_place s t there back =
    ⊎_elim (λ less. ⊎_elim (λ (more : t.line < s.line). absurd (omega arith)) (λ (same, fewer). absurd (omega arith)) back)
    (λ (same, fewer). ⊎_elim (λ (more : t.line < s.line). absurd (omega arith)) (λ (again, less). (same, omega arith)) back) there

no_later : (s t : Shown) → ComesFirst s t → ComesFirst t s → NoLater s t × NoLater t s
no_later s t there back =
    ⊎_elim (λ less. ⊎_elim (λ more. absurd (omega arith)) (λ (same, x). absurd (omega arith)) back)
    (λ (same, first). ⊎_elim (λ more. absurd (omega arith)) (λ (again, other). (first, other)) back) there

one_earliest : (d : Decls) (s t : Shown) → IsEarliest d s → IsEarliest d t → s ≡ t
one_earliest d s t first other =
    let (there, back) = no_later s t (first.earliest t other.shows) (other.earliest s first.shows) in
    let (line, number) = same_place s t there back in
    sym (again_of s) ∙ (ap (λ l. shown_of l (number_of s.cause)) line ∙ ap (shown_of t.line) number) ∙ again_of t

-- ---- an error tells one thing

abbrev error_at : Cause → ℕ → CheckError
error_at cause.Twice line = Twice line
error_at cause.UnknownType line = UnknownType line
error_at cause.Arity line = Arity line
error_at cause.Cycle line = Cycle line
error_at cause.BadBase line = BadBase line
error_at cause.BadInterface line = BadInterface line
error_at cause.VarianceMisplaced line = VarianceMisplaced line
error_at cause.VariantClass line = VariantClass line
error_at cause.OverridesFinal line = OverridesFinal line
error_at cause.AbstractInConcrete line = AbstractInConcrete line
error_at cause.OverrideUnknown line = OverrideUnknown line
error_at cause.OverrideTwice line = OverrideTwice line

abbrev error_of : Shown → CheckError
error_of s = error_at s.cause s.line

at_cause : (line : ℕ) (c : Cause) (s : Shown) → Some (record { line = line; cause = c }) ≡ Some s → error_of s ≡ error_at c line
at_cause line c s is = let same : s ≡ record { line = line; cause = c } = cc in ap error_of same

told_by : (e : CheckError) (s : Shown) → refusal_of e ≡ Some s → error_of s ≡ e
told_by (Twice line) s is = at_cause line cause.Twice s is
told_by (UnknownType line) s is = at_cause line cause.UnknownType s is
told_by (Arity line) s is = at_cause line cause.Arity s is
told_by (Cycle line) s is = at_cause line cause.Cycle s is
told_by (BadBase line) s is = at_cause line cause.BadBase s is
told_by (BadInterface line) s is = at_cause line cause.BadInterface s is
told_by (VarianceMisplaced line) s is = at_cause line cause.VarianceMisplaced s is
told_by (VariantClass line) s is = at_cause line cause.VariantClass s is
told_by (OverridesFinal line) s is = at_cause line cause.OverridesFinal s is
told_by (AbstractInConcrete line) s is = at_cause line cause.AbstractInConcrete s is
told_by (OverrideUnknown line) s is = at_cause line cause.OverrideUnknown s is
told_by (OverrideTwice line) s is = at_cause line cause.OverrideTwice s is
told_by Memory s is = absurd cc

-- ---- the stage

module _ (text : List ℕ) (tokens : List Token) (d : Decls) where
  check_here : (e : CheckError) (s : Shown) → refusal_of e ≡ Some s → IsEarliest d s → IsOneEnding (Checks text tokens d) (refused (Check e))
  unfolding Checks
  check_here e s tells first =
      settles_here (Unit {0}) (λ u. AreLawful d) (IsCheckRefusal d) (λ u. Scripts text tokens d) (Check e)
      (record { error = e; shown = s; tells = tells; first = first; is = refl })
      (λ r again. again.is
      ∙ ap Check (sym (told_by again.error again.shown again.tells) ∙ ap error_of (one_earliest d again.shown s again.first first) ∙ told_by e s tells))
      (λ u lawful. lawful s.cause s.line first.shows)

  abbrev shows_at : (line : ℕ) (c : Cause) → Shown
  shows_at line c = record { line = line; cause = c }

  pub check_stops : (e : CheckError) → IfSome (refusal_of e) (IsEarliest d) → Settles (Checks text tokens d) (Err (stopped_check e))
  check_stops (Twice line) first = check_here (Twice line) (shows_at line cause.Twice) refl first
  check_stops (UnknownType line) first = check_here (UnknownType line) (shows_at line cause.UnknownType) refl first
  check_stops (Arity line) first = check_here (Arity line) (shows_at line cause.Arity) refl first
  check_stops (Cycle line) first = check_here (Cycle line) (shows_at line cause.Cycle) refl first
  check_stops (BadBase line) first = check_here (BadBase line) (shows_at line cause.BadBase) refl first
  check_stops (BadInterface line) first = check_here (BadInterface line) (shows_at line cause.BadInterface) refl first
  check_stops (VarianceMisplaced line) first = check_here (VarianceMisplaced line) (shows_at line cause.VarianceMisplaced) refl first
  check_stops (VariantClass line) first = check_here (VariantClass line) (shows_at line cause.VariantClass) refl first
  check_stops (OverridesFinal line) first = check_here (OverridesFinal line) (shows_at line cause.OverridesFinal) refl first
  check_stops (AbstractInConcrete line) first = check_here (AbstractInConcrete line) (shows_at line cause.AbstractInConcrete) refl first
  check_stops (OverrideUnknown line) first = check_here (OverrideUnknown line) (shows_at line cause.OverrideUnknown) refl first
  check_stops (OverrideTwice line) first = check_here (OverrideTwice line) (shows_at line cause.OverrideTwice) refl first
  check_stops Memory first = tt

  pub check_gives : AreLawful d → (result : Result Prepared Stopped) → Settles (Scripts text tokens d) result → Settles (Checks text tokens d) result
  unfolding Checks
  check_gives lawful result rest =
      settles_on (Unit {0}) (λ u. AreLawful d) (IsCheckRefusal d) (λ u. Scripts text tokens d) tt lawful (λ u again. refl)
      (λ r refuses. lawful refuses.shown.cause refuses.shown.line refuses.first.shows) result rest
