-- Declarations are read, or the first refusal of their reading.
use Rattle.std.proofs.Common.{◌≡◌, ℕ, List, Some, Result, Ok, Err, IfSome, refl, sym, ap, ◌∙◌}
use Rattle.vsd_text.specs.declared.tokens.Token.{Token}
use Rattle.vsd_ast.specs.declared.declarations.Decls.{Decls}
use Rattle.vsd_grammar.specs.declared.cause.Cause.{Cause}
use Rattle.vsd_grammar.specs.declared.cause.Cause.TheVariants as cause
use Rattle.vsd_decls.specs.Declarations.{AreDeclarations, IsFirstRefusal, IsOnly, IsRefused}
use Rattle.vsd_decls.specs.Refusals.{refusal_of}
use Rattle.vsd_decls.specs.declared.errors.DeclError.{DeclError}
use Rattle.vsd_decls.specs.declared.errors.DeclError.TheVariants.{Unexpected, Unsupported, TooMany, TooDeep, Memory}
use Rattle.vsd_refusals.specs.declared.refusal.Refusal.TheVariants.{Decl}
use Rattle.vsd_stages.specs.Endings.{refused}
use Rattle.vsd_stages.specs.Settling.{IsOneEnding, Settles}
use Rattle.vsd_stages.specs.Stages.{Checks, Declares, IsDeclRefusal}
use Rattle.vsd_stages.specs.Stopping.{stopped_decl}
use Rattle.vsd_stages.specs.declared.prepared.Prepared.{Prepared}
use Rattle.vsd_stages.specs.declared.stopping.Stopped.{Stopped}
use Rattle.vsd_stages.proofs.Endings.{settles_on, settles_here}

-- the error that tells a cause at a line
abbrev error_at : ℕ → Cause → DeclError
error_at line cause.Unexpected = Unexpected line
error_at line (cause.Unsupported what) = Unsupported line what
error_at line (cause.TooMany what) = TooMany line what
error_at line cause.TooDeep = TooDeep line
error_at line other = Memory

abbrev error_of : ℕ × Cause → DeclError
error_of shown = error_at shown.0 shown.1

told_by : (e : DeclError) (shown : ℕ × Cause) → refusal_of e ≡ Some shown → error_of shown ≡ e
told_by (Unexpected line) shown is = let same : shown ≡ (line, cause.Unexpected) = cc in ap error_of same
told_by (Unsupported line what) shown is = let same : shown ≡ (line, cause.Unsupported what) = cc in ap error_of same
told_by (TooMany line what) shown is = let same : shown ≡ (line, cause.TooMany what) = cc in ap error_of same
told_by (TooDeep line) shown is = let same : shown ≡ (line, cause.TooDeep) = cc in ap error_of same
told_by Memory shown is = absurd cc

module _ (text : List ℕ) (tokens : List Token) where
  decl_here : (e : DeclError) (shown : ℕ × Cause) → refusal_of e ≡ Some shown → IsFirstRefusal text tokens shown
      → ((other : ℕ × Cause) → IsFirstRefusal text tokens other → shown ≡ other) → ((d : Decls) → AreDeclarations text tokens d → ⊥)
      → IsOneEnding (Declares text tokens) (refused (Decl e))
  unfolding Declares
  decl_here e shown tells first one none =
      settles_here Decls (AreDeclarations text tokens) (IsDeclRefusal text tokens) (Checks text tokens) (Decl e)
      (record { error = e; shown = shown; tells = tells; first = first; is = refl })
      (λ r again. again.is ∙ ap Decl (sym (told_by again.error again.shown again.tells) ∙ ap error_of (sym (one again.shown again.first)) ∙ told_by e shown tells))
      none

  pub decl_stops : (e : DeclError) → IfSome (refusal_of e) (IsFirstRefusal text tokens)
      → ((other : ℕ × Cause) → IsFirstRefusal text tokens other → IsRefused other (Err e)) → ((d : Decls) → AreDeclarations text tokens d → IsOnly d (Err e))
      → Settles (Declares text tokens) (Err (stopped_decl e))
  decl_stops (Unexpected line) first one none = decl_here (Unexpected line) (line, cause.Unexpected) refl first one none
  decl_stops (Unsupported line what) first one none = decl_here (Unsupported line what) (line, cause.Unsupported what) refl first one none
  decl_stops (TooMany line what) first one none = decl_here (TooMany line what) (line, cause.TooMany what) refl first one none
  decl_stops (TooDeep line) first one none = decl_here (TooDeep line) (line, cause.TooDeep) refl first one none
  decl_stops Memory first one none = tt

  pub decl_gives : (d : Decls) → AreDeclarations text tokens d → ((other : ℕ × Cause) → IsFirstRefusal text tokens other → IsRefused other (Ok d))
      → ((other : Decls) → AreDeclarations text tokens other → IsOnly other (Ok d)) → (result : Result Prepared Stopped) → Settles (Checks text tokens d) result
      → Settles (Declares text tokens) result
  unfolding Declares
  decl_gives d are never one result rest =
      settles_on Decls (AreDeclarations text tokens) (IsDeclRefusal text tokens) (Checks text tokens) d are one
      (λ r refuses. never refuses.shown refuses.first) result rest
