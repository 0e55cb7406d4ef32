-- The script is read, or the first refusal of its reading.
use Rattle.std.proofs.Common.{◌≡◌, ℕ, List, [], Result, Ok, Err, IfOk, refl, sym, ap, subst, ◌∙◌}
use Rattle.vsd_text.specs.declared.tokens.Token.{Token}
use Rattle.vsd_ast.specs.declared.declarations.Decls.{Decls}
use Rattle.vsd_ast.specs.declared.scripts.Script.{Script}
use Rattle.vsd_grammar.specs.declared.cause.Cause.{Cause}
use Rattle.vsd_grammar.specs.declared.cause.Cause.TheVariants as cause
use Rattle.vsd_grammar.specs.declared.syntax_error.SyntaxError.{SyntaxError}
use Rattle.vsd_grammar.specs.declared.syntax_error.Stop.{Stop}
use Rattle.vsd_grammar.specs.declared.syntax_error.Stop.TheVariants as stop
use Rattle.vsd_grammar.specs.Input.{Input}
use Rattle.vsd_grammar.specs.Grammar.{run, Derives}
use Rattle.vsd_grammar.specs.Place.{line_of, start_of}
use Rattle.vsd_script.specs.Answers.{IsAnswerOf, IsFound, IsOnly, StopsWith}
use Rattle.vsd_script.specs.Errors.{error_of, told}
use Rattle.vsd_script.specs.Productions.{script}
use Rattle.vsd_script.specs.declared.error.ScriptError.{ScriptError}
use Rattle.vsd_script.specs.declared.error.ScriptError.TheVariants.{Memory}
use Rattle.vsd_refusals.specs.declared.refusal.Refusal.TheVariants as refusal
use Rattle.vsd_stages.specs.Endings.{refused}
use Rattle.vsd_stages.specs.Settling.{IsOneEnding, Settles}
use Rattle.vsd_stages.specs.Stages.{Scripts, Closes, IsScript, IsScriptRefusal}
use Rattle.vsd_stages.specs.Stopping.{stopped_script}
use Rattle.vsd_stages.specs.declared.prepared.Prepared.{Prepared}
use Rattle.vsd_stages.specs.declared.stopping.Stopped.{Stopped}
use Rattle.vsd_stages.specs.declared.stopping.Stopped.TheVariants.{Refused}
use Rattle.vsd_stages.proofs.Endings.{settles_on, settles_here}

-- what reading refuses is never want of memory
stays : (c : Cause) (line : ℕ) → stopped_script (error_of c line) ≡ Refused (refusal.Script (error_of c line))
stays cause.Unexpected line = refl
stays (cause.Unsupported form) line = refl
stays (cause.TooMany what) line = refl
stays cause.TooDeep line = refl
stays cause.UnknownName line = refl
stays cause.Twice line = refl
stays cause.TooManyLive line = refl
stays cause.TooManyOperations line = refl
stays (cause.TooManyListed what) line = refl
stays cause.NotConcrete line = refl
stays cause.UnknownMethod line = refl
stays cause.Arity line = refl

never_memory : (c : Cause) (line : ℕ) → error_of c line ≡ Memory → ⊥
never_memory c line is = let both : Refused (refusal.Script (error_of c line)) ≡ stopped_script Memory = sym (stays c line) ∙ ap stopped_script is in absurd cc

module _ (text : List ℕ) (tokens : List Token) (d : Decls) where
  abbrev after : Input
  after = start_of text tokens d.rest []

  script_here : (r : SyntaxError) → run Script (script d) after ≡ Err r → ((s : Script) → IsScript text tokens d s → ⊥)
      → IsOneEnding (Scripts text tokens d) (refused (refusal.Script (told tokens (stop.Refused r))))
  unfolding Scripts
  script_here r is none =
      settles_here Script (IsScript text tokens d) (IsScriptRefusal text tokens d) (Closes d) (refusal.Script (told tokens (stop.Refused r)))
      (record { first = r; reached = is; is = refl })
      (λ s again. let both : Err again.first ≡ Err r = sym again.reached ∙ is in
      let same : again.first ≡ r = cc in again.is ∙ ap (λ x. refusal.Script (told tokens (stop.Refused x))) same)
      none

  -- by how the reading stopped
  stops_by : (s : Stop) → StopsWith (run Script (script d) after) s → IsOnly (script d) after (Err (told tokens s))
      → Settles (Scripts text tokens d) (Err (stopped_script (told tokens s)))
  stops_by stop.Memory stops only = tt
  stops_by (stop.Refused r) stops only =
      subst (λ x. Settles (Scripts text tokens d) (Err x)) (sym (stays r.cause (line_of tokens r.at)))
      (script_here r stops (λ s is. never_memory r.cause (line_of tokens r.at) (only s is.end is.derived)))

  pub script_stops : (e : ScriptError) → IsAnswerOf tokens (run Script (script d) after) (Err e) → IsOnly (script d) after (Err e)
      → Settles (Scripts text tokens d) (Err (stopped_script e))
  script_stops e (s, is, stops) only =
      subst (λ x. Settles (Scripts text tokens d) (Err (stopped_script x))) (sym is)
      (stops_by s stops (subst (λ x. IsOnly (script d) after (Err x)) is only))

  pub script_gives : (s : Script) → IsAnswerOf tokens (run Script (script d) after) (Ok s) → IsFound (script d) after (Ok s) → IsOnly (script d) after (Ok s)
      → (result : Result Prepared Stopped) → Settles (Closes d s) result → Settles (Scripts text tokens d) result
  unfolding Scripts
  script_gives s (j, ran) (k, derives) only result rest =
      settles_on Script (IsScript text tokens d) (IsScriptRefusal text tokens d) (Closes d) s (record { end = k; derived = derives })
      (λ other is. only other is.end is.derived)
      (λ r refuses. let both : Ok (s, j) ≡ Err refuses.first = sym ran ∙ refuses.reached in absurd cc) result rest
