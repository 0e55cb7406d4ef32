use Rattle.std.proofs.Common.{◌≡◌, ◌≤◌, ℕ, List, Ok, Err, length, sym, ◌∙◌, subst, ⊎_elim}
use Rattle.std.proofs.lemmas.Bool.{cases_lt}
use Rattle.vsd_text.specs.declared.tokens.Token.{Token}
use Rattle.vsd_text.specs.declared.tokens.LexError.{LexError}
use Rattle.vsd_text.specs.declared.tokens.LexError.TheVariants.{BadByte, OpenComment, OpenQuote, TooLong, Memory}
use Rattle.vsd_text.specs.Tokens.{mark_len, tokens_of, text_limit}
use Rattle.vsd_text.specs.Spelling.{IsTokenList, HasRefusal, tokens_in}
use Rattle.vsd_text.proofs.Spelled.{read_of, tokens_of-fits, tokens_of-long, IsWhole, IsStopped, outcome_of, list_is_given, whole_is_list, refusal_is_given, list_has_lines}
use Rattle.vsd_text.proofs.Hopeless.{refusal_has_bad_byte, bad_byte_is_given, open_comment_can_begin, open_quote_ends}
use Rattle.vsd_text.proofs.laws.token_list_law.Goals as goal

-- what is given is no longer than the limit
short_if_given : (text : List ℕ) (tokens : List Token) → tokens_of text ≡ Ok tokens → length text ≤ text_limit
short_if_given text tokens given = ⊎_elim (λ long. let e = tokens_of-long text long in cc) (λ short. short) (cases_lt text_limit (length text))

given_is_list : (text : List ℕ) (tokens : List Token) → read_of text ≡ Ok tokens → IsTokenList text tokens
given_is_list text tokens given =
    ⊎_elim
    (λ (whole : IsWhole text). let same : tokens_in (mark_len text) 1 whole.parts ≡ tokens = let g = whole.gives in cc in subst (IsTokenList text) same (whole_is_list text whole))
    (λ (stopped : IsStopped text). let g = stopped.gives in cc)
    (outcome_of text)

refused_has_refusal : (text : List ℕ) (refusal : LexError) → read_of text ≡ Err refusal → HasRefusal text refusal
refused_has_refusal text refusal given =
    ⊎_elim
    (λ (whole : IsWhole text). let g = whole.gives in cc)
    (λ (stopped : IsStopped text). let same : stopped.refusal ≡ refusal = let g = stopped.gives in cc in subst (HasRefusal text) same stopped.has)
    (outcome_of text)

pub returns-clause-tokens : goal.returns-clause-tokens
returns-clause-tokens c text tokens = (
  λ given. let short = short_if_given text tokens given in (short, given_is_list text tokens (sym (tokens_of-fits text short) ∙ given)),
  λ both. tokens_of-fits text both.0 ∙ list_is_given text tokens both.1,
)

pub returns-clause-lines : goal.returns-clause-lines
returns-clause-lines c text tokens given =
    let short = short_if_given text tokens given in
    list_has_lines text tokens (given_is_list text tokens (sym (tokens_of-fits text short) ∙ given))

pub returns-clause-refused : goal.returns-clause-refused
returns-clause-refused c text refusal short = (
  λ given. refused_has_refusal text refusal (sym (tokens_of-fits text short) ∙ given),
  λ has. tokens_of-fits text short ∙ refusal_is_given text refusal has,
)

pub returns-clause-bad_byte : goal.returns-clause-bad_byte
returns-clause-bad_byte c text line short = (
  λ given. refusal_has_bad_byte text line (refused_has_refusal text (BadByte line) (sym (tokens_of-fits text short) ∙ given)),
  λ bad. tokens_of-fits text short ∙ bad_byte_is_given text line bad,
)

pub returns-clause-open_comment : goal.returns-clause-open_comment
returns-clause-open_comment c text line short given =
    open_comment_can_begin text line (refused_has_refusal text (OpenComment line) (sym (tokens_of-fits text short) ∙ given))

pub returns-clause-open_quote : goal.returns-clause-open_quote
returns-clause-open_quote c text line short given =
    open_quote_ends text line (refused_has_refusal text (OpenQuote line) (sym (tokens_of-fits text short) ∙ given))

pub returns-clause-too_long : goal.returns-clause-too_long
returns-clause-too_long c text = (
  λ given. ⊎_elim (λ long. long)
      (λ short. absurd (refused_has_refusal text TooLong (sym (tokens_of-fits text short) ∙ given)).is_refusal)
      (cases_lt text_limit (length text)),
  tokens_of-long text,
)

pub returns-clause-no_other : goal.returns-clause-no_other
returns-clause-no_other c text memory =
    ⊎_elim (λ long. let e = tokens_of-long text long in cc)
    (λ short. (refused_has_refusal text Memory (sym (tokens_of-fits text short) ∙ memory)).is_refusal)
    (cases_lt text_limit (length text))
