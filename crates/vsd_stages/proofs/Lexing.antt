-- Lexing gives tokens, or refuses.
use Rattle.std.proofs.Common.{◌≡◌, ℕ, List, Result, Ok, Err, IfSome, refl, sym, ap, ◌∙◌}
use Rattle.vsd_text.specs.Tokens.{tokens_of, refusal_of}
use Rattle.vsd_text.specs.declared.tokens.LexError.{LexError}
use Rattle.vsd_text.specs.declared.tokens.LexError.TheVariants.{BadByte, OpenComment, OpenQuote, TooLong, Memory}
use Rattle.vsd_text.specs.declared.tokens.Token.{Token}
use Rattle.vsd_refusals.specs.declared.refusal.Refusal.TheVariants.{Lex}
use Rattle.vsd_stages.specs.Endings.{refused}
use Rattle.vsd_stages.specs.Settling.{IsOneEnding, Settles}
use Rattle.vsd_stages.specs.Stages.{Declares, Ends, IsLexRefusal}
use Rattle.vsd_stages.specs.Stopping.{stopped_lex}
use Rattle.vsd_stages.specs.declared.prepared.Prepared.{Prepared}
use Rattle.vsd_stages.specs.declared.stopping.Stopped.{Stopped}
use Rattle.vsd_stages.proofs.Endings.{settles_on, settles_here}

module _ (text : List ℕ) where
  same_error : (e other : LexError) → tokens_of text ≡ Err e → tokens_of text ≡ Err other → other ≡ e
  same_error e other is again = let both : Err other ≡ Err e = sym again ∙ is in cc

  lex_here : (e : LexError) → tokens_of text ≡ Err e → IsOneEnding (Ends text) (refused (Lex e))
  unfolding Ends
  lex_here e is =
      settles_here (List Token) (λ tokens. tokens_of text ≡ Ok tokens) (IsLexRefusal text) (Declares text) (Lex e)
      (record { error = e; first = is; is = refl }) (λ s again. again.is ∙ ap Lex (same_error e again.error is again.first))
      (λ tokens lexed. let both : Ok tokens ≡ Err e = sym lexed ∙ is in absurd cc)

  pub lex_stops : (e : LexError) → IfSome (refusal_of e) (λ r. tokens_of text ≡ Err r) → Settles (Ends text) (Err (stopped_lex e))
  lex_stops (BadByte line) is = lex_here (BadByte line) is
  lex_stops (OpenComment line) is = lex_here (OpenComment line) is
  lex_stops (OpenQuote line) is = lex_here (OpenQuote line) is
  lex_stops TooLong is = lex_here TooLong is
  lex_stops Memory is = tt

  pub lex_gives : (tokens : List Token) → tokens_of text ≡ Ok tokens → (result : Result Prepared Stopped) → Settles (Declares text tokens) result
      → Settles (Ends text) result
  unfolding Ends
  lex_gives tokens is result rest =
      settles_on (List Token) (λ ts. tokens_of text ≡ Ok ts) (IsLexRefusal text) (Declares text) tokens is
      (λ other lexed. let both : Ok other ≡ Ok tokens = sym lexed ∙ is in cc)
      (λ r refuses. let both : Ok tokens ≡ Err refuses.error = sym is ∙ refuses.first in absurd cc) result rest
