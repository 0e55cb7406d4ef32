-- What the definition of the token list comes to, by the parts of the text.
use Rattle.std.proofs.Common.{◌≡◌, ℕ, ◌+◌, ◌<◌, ◌≤◌, List, [], ◌∷◌, ◌++◌, length, take, nat_lt, Result, Ok, Err, refl, sym, ap, ◌∙◌, subst, arith, append_assoc, ◌⊎◌, inl, inr}
use Rattle.std.specs.Prelude.{All}
use Rattle.std.proofs.lemmas.Bool.{cond-true, lt-ltb}
use Rattle.std.proofs.lemmas.Result.{IfErr-at_err}
use Rattle.std.proofs.lemmas.List.{append-nil, length-append, length-take-le, take-append-drop, take_at, length_push}
use Rattle.std.proofs.lemmas.List.Elements.{All-nil, All-cons}
use Rattle.vsd_text.specs.Bytes.{is_line_feed}
use Rattle.vsd_text.specs.Tokens.{first_piece, line_feeds, margin, mark_len, tokens_from, tokens_of, before, with_piece, text_limit}
use Rattle.vsd_text.specs.Spelling.{IsLexeme, Part, gap, lexeme, text_of, AreParts, tokens_in, body_of, IsTokenList, IsRefusal, HasRefusal}
use Rattle.vsd_text.specs.declared.tokens.Token.{Token}
use Rattle.vsd_text.specs.declared.tokens.TokenKind.{TokenKind}
use Rattle.vsd_text.specs.declared.tokens.TokenKind.TheVariants.{Word, Quoted, Number, Text, Symbol, Colons, Percents}
use Rattle.vsd_text.specs.declared.tokens.LexError.{LexError}
use Rattle.vsd_text.specs.declared.tokens.LexError.TheVariants.{TooLong}
use Rattle.vsd_text.proofs.LineFeeds.{line_feeds-append}
use Rattle.vsd_text.proofs.Steps.{mark_is, tokens_of-short}
use Rattle.vsd_text.proofs.Refusals.{refused_is_refusal, refusal_is_refused, no_refusal_at_end}
use Rattle.vsd_text.proofs.Cuts.{IsStuck, cut_after, before-nil, tokens_from-parts}

-- what a text gives after its mark
abbrev pub read_of : List ℕ → Result (List Token) LexError
read_of text = tokens_from (mark_len text) 1 0 (body_of text)

-- a text that is not too long
pub tokens_of-fits : (text : List ℕ) → length text ≤ text_limit → tokens_of text ≡ read_of text
tokens_of-fits text short = tokens_of-short text short ∙ before-nil (read_of text)

pub tokens_of-long : (text : List ℕ) → text_limit < length text → tokens_of text ≡ Err TooLong
unfolding tokens_of
tokens_of-long text long = cond-true (nat_lt text_limit (length text)) _ _ (lt-ltb _ _ long)

-- what parts give, with nothing after them
pub parts_give : (place : ℕ) (bs : List ℕ) (parts : List Part) → bs ≡ text_of parts → AreParts parts [] → tokens_from place 1 0 bs ≡ Ok (tokens_in place 1 parts)
unfolding tokens_from before
parts_give place bs parts is are =
    ap (tokens_from place 1 0) (is ∙ sym (append-nil (text_of parts))) ∙ tokens_from-parts place 1 parts [] are ∙ ap Ok (append-nil (tokens_in place 1 parts))

-- what parts give, with a refusal after them
pub refusal_given : (place : ℕ) (bs : List ℕ) (parts : List Part) (byte : ℕ) (others : List ℕ) (refusal : LexError) → bs ≡ text_of parts ++ byte ∷ others → AreParts parts (byte ∷ others) → first_piece (1 + line_feeds (text_of parts)) byte others ≡ Err refusal → tokens_from place 1 0 bs ≡ Err refusal
unfolding tokens_from before with_piece
refusal_given place bs parts byte others refusal is are refused =
    let line = 1 + line_feeds (text_of parts) in
    let there = place + length (text_of parts) in
    ap (tokens_from place 1 0) is ∙ tokens_from-parts place 1 parts (byte ∷ others) are
    ∙ ap (λ r. before (tokens_in place 1 parts) (with_piece there line r (λ n. tokens_from (there + 1) (line + line_feeds (byte ∷ [])) n others))) refused

-- a text is parts to its end, or up to a refusal
pub record IsWhole (text : List ℕ) : Type 0 where
  pub parts : List Part
  pub text_is : body_of text ≡ text_of parts
  pub are_parts : AreParts parts []
  pub gives : read_of text ≡ Ok (tokens_in (mark_len text) 1 parts)

pub record IsStopped (text : List ℕ) : Type 0 where
  pub refusal : LexError
  pub has : HasRefusal text refusal
  pub gives : read_of text ≡ Err refusal

whole_or_stopped : (text : List ℕ) (parts : List Part) (rest : List ℕ) → body_of text ≡ text_of parts ++ rest → AreParts parts rest → IsStuck (1 + line_feeds (text_of parts)) rest → IsWhole text ⊎ IsStopped text
whole_or_stopped text parts [] is are stuck =
    let whole = is ∙ append-nil (text_of parts) in
    inl (record { parts = parts; text_is = whole; are_parts = are; gives = parts_give (mark_len text) (body_of text) parts whole are })
whole_or_stopped text parts (byte ∷ others) is are stuck =
    let line = 1 + line_feeds (text_of parts) in
    inr (record {
      refusal = stuck.0;
      has = record { parts = parts; rest = byte ∷ others; text_is = is; are_parts = are; is_refusal = IfErr-at_err (IsRefusal line (byte ∷ others)) stuck.1 (refused_is_refusal line byte others) };
      gives = refusal_given (mark_len text) (body_of text) parts byte others stuck.0 is are stuck.1;
    })

pub outcome_of : (text : List ℕ) → IsWhole text ⊎ IsStopped text
outcome_of text = let cut = cut_after 0 1 (body_of text) in whole_or_stopped text cut.parts cut.rest cut.bytes_are cut.are_parts cut.stuck

-- a token list is what the text gives
pub list_is_given : (text : List ℕ) (tokens : List Token) → IsTokenList text tokens → read_of text ≡ Ok tokens
list_is_given text tokens list = parts_give (mark_len text) (body_of text) list.parts list.text_is list.are_parts ∙ ap Ok (sym list.tokens_are)

pub whole_is_list : (text : List ℕ) (whole : IsWhole text) → IsTokenList text (tokens_in (mark_len text) 1 whole.parts)
whole_is_list text whole = record { parts = whole.parts; text_is = whole.text_is; are_parts = whole.are_parts; tokens_are = refl }

-- a refusal is what the text gives
pub refusal_is_given : (text : List ℕ) (refusal : LexError) → HasRefusal text refusal → read_of text ≡ Err refusal
refusal_is_given text refusal has = by_rest has.rest refl
  where
    by_rest : (rest : List ℕ) → has.rest ≡ rest → read_of text ≡ Err refusal
    by_rest [] is = absurd (no_refusal_at_end _ refusal (subst (λ xs. IsRefusal (1 + line_feeds (text_of has.parts)) xs refusal) is has.is_refusal))
    by_rest (byte ∷ others) is =
        let line = 1 + line_feeds (text_of has.parts) in
        refusal_given (mark_len text) (body_of text) has.parts byte others refusal (has.text_is ∙ ap (λ xs. text_of has.parts ++ xs) is) (subst (AreParts has.parts) is has.are_parts)
        (refusal_is_refused line byte others refusal (subst (λ xs. IsRefusal line xs refusal) is has.is_refusal))

-- no line feed stands in a token's opening quote
pub sign_has_none : (line_feeds (39 ∷ []) ≡ 0) × (line_feeds (34 ∷ []) ≡ 0)
unfolding is_line_feed
sign_has_none = (refl, refl)

take_quote : (prefix : List ℕ) (quote : ℕ) (others rest : List ℕ) → line_feeds (quote ∷ []) ≡ 0 → line_feeds (take (length prefix + 1) (prefix ++ ((quote ∷ others) ++ rest))) ≡ line_feeds prefix
take_quote prefix quote others rest none =
    let bytes : prefix ++ ((quote ∷ others) ++ rest) ≡ (prefix ++ quote ∷ []) ++ (others ++ rest) = sym (append_assoc prefix (quote ∷ []) (others ++ rest)) in
    ap (λ xs. line_feeds (take (length prefix + 1) xs)) bytes
    ∙ ap line_feeds (take_at (prefix ++ quote ∷ []) (others ++ rest) (length prefix + 1) (length_push prefix quote))
    ∙ omega (arith, line_feeds-append prefix (quote ∷ []), none)

take_prefix : (prefix after : List ℕ) → line_feeds (take (length prefix + 0) (prefix ++ after)) ≡ line_feeds prefix
take_prefix prefix after = let there : length prefix ≡ length prefix + 0 = omega arith in ap line_feeds (take_at prefix after (length prefix + 0) there)

-- the line feeds before a token's range
before_range : (prefix bs rest : List ℕ) (kind : TokenKind) → IsLexeme kind bs → line_feeds (take (length prefix + margin kind) (prefix ++ (bs ++ rest))) ≡ line_feeds prefix
before_range prefix bs rest Word is = take_prefix prefix (bs ++ rest)
before_range prefix bs rest Quoted is =
    ap (λ xs. line_feeds (take (length prefix + 1) (prefix ++ (xs ++ rest)))) is.bytes_are ∙ take_quote prefix 39 (is.content ++ 39 ∷ []) rest sign_has_none.0
before_range prefix bs rest Number is = take_prefix prefix (bs ++ rest)
before_range prefix bs rest Text is =
    ap (λ xs. line_feeds (take (length prefix + 1) (prefix ++ (xs ++ rest)))) is.bytes_are ∙ take_quote prefix 34 (is.content ++ 34 ∷ []) rest sign_has_none.1
before_range prefix bs rest (Symbol byte) is = take_prefix prefix (bs ++ rest)
before_range prefix bs rest Colons is = take_prefix prefix (bs ++ rest)
before_range prefix bs rest Percents is = take_prefix prefix (bs ++ rest)

-- each token's line is one more than the line feeds before it
abbrev pub LinesAre : List ℕ → List Token → Type 0
LinesAre text tokens = All (λ token. token.line ≡ 1 + line_feeds (take token.start text)) tokens

-- after one more part
lines_after : (prefix bs : List ℕ) (parts : List Part) → LinesAre ((prefix ++ bs) ++ text_of parts) (tokens_in (length (prefix ++ bs)) (1 + line_feeds (prefix ++ bs)) parts) → LinesAre (prefix ++ (bs ++ text_of parts)) (tokens_in (length prefix + length bs) (1 + line_feeds prefix + line_feeds bs) parts)
lines_after prefix bs parts lines =
    let lines_are : 1 + line_feeds (prefix ++ bs) ≡ 1 + line_feeds prefix + line_feeds bs = omega (arith, line_feeds-append prefix bs) in
    subst (λ xs. LinesAre xs (tokens_in (length prefix + length bs) (1 + line_feeds prefix + line_feeds bs) parts)) (append_assoc prefix bs (text_of parts))
    (subst (λ l. LinesAre ((prefix ++ bs) ++ text_of parts) (tokens_in (length prefix + length bs) l parts)) lines_are
    (subst (λ p. LinesAre ((prefix ++ bs) ++ text_of parts) (tokens_in p (1 + line_feeds (prefix ++ bs)) parts)) (length-append prefix bs) lines))

lines_in : (prefix : List ℕ) (parts : List Part) (rest : List ℕ) → AreParts parts rest → LinesAre (prefix ++ text_of parts) (tokens_in (length prefix) (1 + line_feeds prefix) parts)
lines_in prefix [] rest are = All-nil (λ token. token.line ≡ 1 + line_feeds (take token.start (prefix ++ [])))
lines_in prefix (gap bs ∷ parts) rest are = lines_after prefix bs parts (lines_in (prefix ++ bs) parts rest are.1)
lines_in prefix (lexeme kind bs ∷ parts) rest are =
    All-cons (λ token. token.line ≡ 1 + line_feeds (take token.start (prefix ++ (bs ++ text_of parts)))) _ _
    (ap (λ n. 1 + n) (sym (before_range prefix bs (text_of parts) kind are.0.0)))
    (lines_after prefix bs parts (lines_in (prefix ++ bs) parts rest are.1))

-- the tokens of a list are on the lines that the text says
pub list_has_lines : (text : List ℕ) (tokens : List Token) → IsTokenList text tokens → LinesAre text tokens
list_has_lines text tokens list =
    let mark = take (mark_len text) text in
    let size : length mark ≡ mark_len text = length-take-le (mark_len text) text (mark_is text).0 in
    let feeds : 1 + line_feeds mark ≡ 1 = omega (arith, (mark_is text).1) in
    let whole : mark ++ text_of list.parts ≡ text = ap (λ xs. mark ++ xs) (sym list.text_is) ∙ take-append-drop (mark_len text) text in
    subst (LinesAre text) (sym list.tokens_are)
    (subst (λ n. LinesAre text (tokens_in n 1 list.parts)) size
    (subst (λ l. LinesAre text (tokens_in (length mark) l list.parts)) feeds
    (subst (λ xs. LinesAre xs (tokens_in (length mark) (1 + line_feeds mark) list.parts)) whole (lines_in mark list.parts [] list.are_parts))))
