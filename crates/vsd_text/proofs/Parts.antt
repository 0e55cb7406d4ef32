-- A piece is a part of the text.
use Rattle.std.proofs.Common.{◌≡◌, ◌≢◌, ℕ, zero, suc, ◌+◌, ◌≤◌, List, [], ◌∷◌, ◌++◌, length, get_or, take, drop, true, false, eqb, Option, Some, None, Result, refl, sym, ap, ◌∙◌, subst, arith, ◌⊎◌, inl, inr, ⊎_elim, append_assoc}
use Rattle.std.specs.Prelude.{IfOk}
use Rattle.std.specs.List.{prefix_len, AllPass}
use Rattle.std.proofs.Math.Numerals.{add-one}
use Rattle.std.proofs.lemmas.Bool.{cond_both, eqb-true, eqb-false, true≢false, or_cases, not-false}
use Rattle.vsd_text.proofs.Classes.{letter_runs, digit_runs}
use Rattle.std.proofs.lemmas.List.{length-append, length-drop, take_at, drop_at, drop_all}
use Rattle.std.proofs.lemmas.List.Sums.{prefix_len-le-length}
use Rattle.vsd_text.specs.Bytes.{is_separator, is_digit, is_letter, is_run_byte, is_printable, is_quoted_byte, is_line_byte, is_line_feed}
use Rattle.vsd_text.specs.Tokens.{first_piece, run_kind, twin_or_symbol, closed_by, slash_piece, closed_comment, text_len, comment_len}
use Rattle.vsd_text.specs.Spelling.{IsContent, IsLexeme, EndsToken, IsLongest, HasNoClose, IsGap, EndsLine, Part, gap, lexeme, separator, line_comment, block_comment, IsPart}
use Rattle.vsd_text.specs.declared.tokens.TokenKind.{TokenKind}
use Rattle.vsd_text.specs.declared.tokens.TokenKind.TheVariants.{Word, Quoted, Number, Text, Symbol, Colons, Percents}
use Rattle.vsd_text.specs.declared.tokens.LexError.{LexError}
use Rattle.vsd_text.specs.declared.pieces.Piece.{Piece}
use Rattle.vsd_text.proofs.Prefixes.{passes_amid, not_empty, prefix_passes, prefix_stops, Stops, prefix_len-of_prefix}
use Rattle.vsd_text.proofs.LineFeeds.{take_next}
use Rattle.vsd_text.proofs.Quotes.{TextSplit, ended, cut_off, text_split, text_len-of_content}
use Rattle.vsd_text.proofs.Comments.{CommentSplit, closed, open_ended, comment_split, comment_len-of_body, comment_len-of_open}

run_is_letter : (b : ℕ) → is_run_byte b ≡ true → is_digit b ≡ false → is_letter b ≡ true
unfolding is_run_byte
run_is_letter b runs no_digit = ⊎_elim (λ letter. letter) (λ digit. absurd (true≢false (sym digit ∙ no_digit))) (or_cases (is_letter b) (is_digit b) runs)

-- a byte that is in no run is not this one, which is
run_byte_is_not : (sign : ℕ) → is_run_byte sign ≡ false → (b : ℕ) → is_run_byte b ≡ true → b ≢ sign
run_byte_is_not sign none b runs same = true≢false (sym (subst (λ x. is_run_byte x ≡ true) same runs) ∙ none)

-- the signs that begin tokens of their own or comments are in no run
signs_run_not : (is_run_byte 39 ≡ false) × (is_run_byte 34 ≡ false) × (is_run_byte 47 ≡ false) × (is_run_byte 58 ≡ false) × (is_run_byte 37 ≡ false)
unfolding is_run_byte is_letter is_digit
signs_run_not = (refl, refl, refl, refl, refl)

-- no lexeme goes from a run byte over one that is none
no_lexeme_past_run : (b c : ℕ) (xs ys : List ℕ) → is_run_byte b ≡ true → is_run_byte c ≡ false → (kind : TokenKind) → IsLexeme kind (b ∷ (xs ++ c ∷ ys)) → ⊥
no_lexeme_past_run b c xs ys runs stops Word r =
    let others : r.others ≡ xs ++ c ∷ ys = cc in
    true≢false (sym (passes_amid is_run_byte xs c ys (subst (AllPass is_run_byte) others r.goes_on)) ∙ stops)
no_lexeme_past_run b c xs ys runs stops Quoted r = let same : b ≡ 39 = cc in run_byte_is_not 39 signs_run_not.0 b runs same
no_lexeme_past_run b c xs ys runs stops Number r =
    let others : r.others ≡ xs ++ c ∷ ys = cc in
    true≢false (sym (passes_amid is_run_byte xs c ys (subst (AllPass is_run_byte) others r.goes_on)) ∙ stops)
no_lexeme_past_run b c xs ys runs stops Text r = let same : b ≡ 34 = cc in run_byte_is_not 34 signs_run_not.1 b runs same
no_lexeme_past_run b c xs ys runs stops (Symbol byte) r = let e : xs ++ c ∷ ys ≡ [] = cc in not_empty xs ys c e
no_lexeme_past_run b c xs ys runs stops Colons r = let same : b ≡ 58 = cc in run_byte_is_not 58 signs_run_not.3 b runs same
no_lexeme_past_run b c xs ys runs stops Percents r = let same : b ≡ 37 = cc in run_byte_is_not 37 signs_run_not.4 b runs same

-- a longer lexeme that begins with a byte of no run, and no quote, is the token of two such bytes
record IsTwin (b c : ℕ) (others : List ℕ) : Type 0 where
  pub twice : c ≡ b
  pub whole : others ≡ []
  pub which : (b ≡ 58) ⊎ (b ≡ 37)

-- a byte that a Symbol may have
pub record IsSign (b : ℕ) : Type 0 where
  pub printable : is_printable b ≡ true
  pub no_run : is_run_byte b ≡ false
  pub no_single_quote : b ≢ 39
  pub no_double_quote : b ≢ 34

lexeme_of_signs : (b c : ℕ) (others : List ℕ) → IsSign b → (kind : TokenKind) → IsLexeme kind (b ∷ c ∷ others) → IsTwin b c others
lexeme_of_signs b c others sign Word r =
    let first : r.byte ≡ b = cc in
    absurd (true≢false (sym (letter_runs b (subst (λ x. is_letter x ≡ true) first r.begins)) ∙ sign.no_run))
lexeme_of_signs b c others sign Quoted r = let same : b ≡ 39 = cc in absurd (sign.no_single_quote same)
lexeme_of_signs b c others sign Number r =
    let first : r.byte ≡ b = cc in
    absurd (true≢false (sym (digit_runs b (subst (λ x. is_digit x ≡ true) first r.begins)) ∙ sign.no_run))
lexeme_of_signs b c others sign Text r = let same : b ≡ 34 = cc in absurd (sign.no_double_quote same)
lexeme_of_signs b c others sign (Symbol byte) r = let e : c ∷ others ≡ [] = cc in absurd (not_empty [] others c e)
lexeme_of_signs b c others sign Colons r = let first : b ≡ 58 = cc in record { twice = cc; whole = cc; which = inl first }
lexeme_of_signs b c others sign Percents r = let first : b ≡ 37 = cc in record { twice = cc; whole = cc; which = inr first }

-- bytes that begin with no `/` open no comment
ends_token : (b : ℕ) (bs : List ℕ) (next : ℕ) → b ≢ 47 → ((kind : TokenKind) (others : List ℕ) → IsLexeme kind ((b ∷ bs) ++ next ∷ others) → ⊥) → EndsToken (b ∷ bs) next
ends_token b bs next no_slash no_token = record {
  no_token = no_token;
  no_line_comment = λ e. let same : b ≡ 47 = cc in no_slash same;
  no_block_comment = λ e. let same : b ≡ 47 = cc in no_slash same;
}

longest_run : (b : ℕ) (bs rest : List ℕ) → is_run_byte b ≡ true → Stops is_run_byte rest → IsLongest (b ∷ bs) rest
longest_run b bs [] runs stops = tt
longest_run b bs (c ∷ more) runs stops =
    ends_token b bs c (run_byte_is_not 47 signs_run_not.2 b runs) (λ kind others is. no_lexeme_past_run b c bs others runs stops kind is)

-- what may not follow a lone sign
pub record StandsAlone (b c : ℕ) : Type 0 where
  pub no_twin : (b ≡ 58) ⊎ (b ≡ 37) → c ≢ b
  pub no_line_comment : b ≡ 47 → c ≢ 47
  pub no_block_comment : b ≡ 47 → c ≢ 42

longest_sign : (b : ℕ) (rest : List ℕ) → IsSign b → ((c : ℕ) (more : List ℕ) → rest ≡ c ∷ more → StandsAlone b c) → IsLongest (b ∷ []) rest
longest_sign b [] sign alone = tt
longest_sign b (c ∷ more) sign alone =
    let here = alone c more refl in
    record {
      no_token = λ kind others is. let twin = lexeme_of_signs b c others sign kind is in here.no_twin twin.which twin.twice;
      no_line_comment = λ e. let b_is : b ≡ 47 = cc in let c_is : c ≡ 47 = cc in here.no_line_comment b_is c_is;
      no_block_comment = λ e. let b_is : b ≡ 47 = cc in let c_is : c ≡ 42 = cc in here.no_block_comment b_is c_is;
    }

longest_twin : (b : ℕ) (rest : List ℕ) → IsSign b → b ≢ 47 → IsLongest (b ∷ b ∷ []) rest
longest_twin b [] sign no_slash = tt
longest_twin b (c ∷ more) sign no_slash =
    ends_token b (b ∷ []) c no_slash (λ kind others is. not_empty [] others c (lexeme_of_signs b b (c ∷ others) sign kind is).whole)

pub quote_ends : is_quoted_byte 39 ≡ false
unfolding is_quoted_byte
quote_ends = refl

-- two contents before a quote have one length
same_quoted_len : (xs ys more : List ℕ) → AllPass is_quoted_byte xs → AllPass is_quoted_byte ys → xs ++ 39 ∷ more ≡ ys ++ 39 ∷ [] → length xs ≡ length ys
same_quoted_len xs ys more all all' is =
    sym (prefix_len-of_prefix is_quoted_byte xs (39 ∷ more) all quote_ends) ∙ ap (prefix_len is_quoted_byte) is ∙ prefix_len-of_prefix is_quoted_byte ys (39 ∷ []) all' quote_ends

same_text_len : (xs ys more : List ℕ) → IsContent xs → IsContent ys → xs ++ 34 ∷ more ≡ ys ++ 34 ∷ [] → length xs ≡ length ys
same_text_len xs ys more is is' e =
    sym (text_len-of_content xs (34 ∷ more) is (inl refl)) ∙ ap (text_len false) e ∙ text_len-of_content ys (34 ∷ []) is' (inl refl)

-- so the longer of two such lists is as long as the other
not_longer : (quote : ℕ) (xs ys : List ℕ) (c : ℕ) (others : List ℕ) → xs ++ quote ∷ c ∷ others ≡ ys ++ quote ∷ [] → length xs ≡ length ys → ⊥
not_longer quote xs ys c others is same =
    omega (arith, same, ap length is, length-append xs (quote ∷ c ∷ others), length-append ys (quote ∷ []))

-- no lexeme goes on after a closing single quote
past_quoted : (content : List ℕ) (c : ℕ) (others : List ℕ) → AllPass is_quoted_byte content → (kind : TokenKind) → IsLexeme kind (39 ∷ (content ++ 39 ∷ c ∷ others)) → ⊥
past_quoted content c others all Word r = let first : r.byte ≡ 39 = cc in run_byte_is_not 39 signs_run_not.0 r.byte (letter_runs r.byte r.begins) first
past_quoted content c others all Quoted r =
    let tail : content ++ 39 ∷ c ∷ others ≡ r.content ++ 39 ∷ [] = cc in
    not_longer 39 content r.content c others tail (same_quoted_len content r.content (c ∷ others) all r.is_content tail)
past_quoted content c others all Number r = let first : r.byte ≡ 39 = cc in run_byte_is_not 39 signs_run_not.0 r.byte (digit_runs r.byte r.begins) first
past_quoted content c others all Text r = let first : ◌≡◌ {A = ℕ} 39 34 = ap (λ xs. get_or xs 0 0) r.bytes_are in omega arith
past_quoted content c others all (Symbol byte) r = let tail : content ++ 39 ∷ c ∷ others ≡ [] = cc in not_empty content (c ∷ others) 39 tail
past_quoted content c others all Colons r = let first : ◌≡◌ {A = ℕ} 39 58 = ap (λ xs. get_or xs 0 0) r in omega arith
past_quoted content c others all Percents r = let first : ◌≡◌ {A = ℕ} 39 37 = ap (λ xs. get_or xs 0 0) r in omega arith

past_text : (content : List ℕ) (c : ℕ) (others : List ℕ) → IsContent content → (kind : TokenKind) → IsLexeme kind (34 ∷ (content ++ 34 ∷ c ∷ others)) → ⊥
past_text content c others is Word r = let first : r.byte ≡ 34 = cc in run_byte_is_not 34 signs_run_not.1 r.byte (letter_runs r.byte r.begins) first
past_text content c others is Quoted r = let first : ◌≡◌ {A = ℕ} 34 39 = ap (λ xs. get_or xs 0 0) r.bytes_are in omega arith
past_text content c others is Number r = let first : r.byte ≡ 34 = cc in run_byte_is_not 34 signs_run_not.1 r.byte (digit_runs r.byte r.begins) first
past_text content c others is Text r =
    let tail : content ++ 34 ∷ c ∷ others ≡ r.content ++ 34 ∷ [] = cc in
    not_longer 34 content r.content c others tail (same_text_len content r.content (c ∷ others) is r.is_content tail)
past_text content c others is (Symbol byte) r = let tail : content ++ 34 ∷ c ∷ others ≡ [] = cc in not_empty content (c ∷ others) 34 tail
past_text content c others is Colons r = let first : ◌≡◌ {A = ℕ} 34 58 = ap (λ xs. get_or xs 0 0) r in omega arith
past_text content c others is Percents r = let first : ◌≡◌ {A = ℕ} 34 37 = ap (λ xs. get_or xs 0 0) r in omega arith

pub quoted_part : (content rest : List ℕ) → AllPass is_quoted_byte content → IsPart (lexeme Quoted (39 ∷ content ++ 39 ∷ [])) rest
quoted_part content [] all = (record { content = content; bytes_are = refl; is_content = all }, tt)
quoted_part content (c ∷ more) all = (
  record { content = content; bytes_are = refl; is_content = all },
  ends_token 39 (content ++ 39 ∷ []) c (λ e. omega arith) (λ kind others is. past_quoted content c others all kind (subst (λ xs. IsLexeme kind (39 ∷ xs)) (append_assoc content (39 ∷ []) (c ∷ others)) is)),
)

pub text_part : (content rest : List ℕ) → IsContent content → IsPart (lexeme Text (34 ∷ content ++ 34 ∷ [])) rest
text_part content [] is = (record { content = content; bytes_are = refl; is_content = is }, tt)
text_part content (c ∷ more) is = (
  record { content = content; bytes_are = refl; is_content = is },
  ends_token 34 (content ++ 34 ∷ []) c (λ e. omega arith) (λ kind others lexeme_is. past_text content c others is kind (subst (λ xs. IsLexeme kind (34 ∷ xs)) (append_assoc content (34 ∷ []) (c ∷ others)) lexeme_is)),
)

-- the part that a piece is, with its bytes
abbrev pub part_of : Option TokenKind → List ℕ → Part
part_of None bs = gap bs
part_of (Some kind) bs = lexeme kind bs

-- the piece with b and some of bs is a part there
pub record PieceIsPart (b : ℕ) (bs : List ℕ) (piece : Piece) : Type 0 where
  pub within : piece.more ≤ length bs
  pub is_part : IsPart (part_of piece.kind (b ∷ take piece.more bs)) (drop piece.more bs)

abbrev pub OkIsPart : ℕ → List ℕ → Result Piece LexError → Type 0
OkIsPart b bs r = IfOk r (PieceIsPart b bs)

-- one byte fewer is left
drop_next : (n : ℕ) (bs : List ℕ) (c : ℕ) (more : List ℕ) → drop n bs ≡ c ∷ more → drop (suc n) bs ≡ more
drop_next zero [] c more is = cc
drop_next zero (b ∷ bs) c more is = cc
drop_next (suc n) [] c more is = cc
drop_next (suc n) (b ∷ bs) c more is = drop_next n bs c more is

-- a token between quotes, where its content stands before a quote
closed_is_part : (quote : ℕ) (kind : TokenKind) (line b n : ℕ) (bs rest : List ℕ) → b ≡ quote → drop n bs ≡ rest → ((c : ℕ) (more : List ℕ) → rest ≡ c ∷ more → IsPart (lexeme kind (quote ∷ take n bs ++ quote ∷ [])) more) → OkIsPart b bs (closed_by quote kind line n rest)
unfolding closed_by
closed_is_part quote kind line b n bs [] first is part = tt
closed_is_part quote kind line b n bs (c ∷ more) first is part =
    cond_both (eqb c quote) _ _ (OkIsPart b bs)
    (λ same.
    let c_is : c ≡ quote = eqb-true c quote same in
    let bytes : quote ∷ take n bs ++ quote ∷ [] ≡ b ∷ take (n + 1) bs =
    rw (first, add-one) (ap (λ x. quote ∷ (take n bs ++ x ∷ [])) (sym c_is) ∙ ap (λ xs. quote ∷ xs) (sym (take_next n bs c more is))) in
    let left : more ≡ drop (n + 1) bs = rw add-one (sym (drop_next n bs c more is)) in
    record {
      within = omega (arith, ap length is, length-drop n bs);
      is_part = subst (λ xs. IsPart (lexeme kind xs) (drop (n + 1) bs)) bytes (subst (IsPart (lexeme kind (quote ∷ take n bs ++ quote ∷ []))) left (part c more refl));
    })
    (λ _. cond_both (eqb c 10) _ _ (OkIsPart b bs) (λ _. tt) (λ _. tt))

sign_is_part : (b : ℕ) (bs : List ℕ) → IsSign b → ((c : ℕ) (more : List ℕ) → bs ≡ c ∷ more → StandsAlone b c) → PieceIsPart b bs (record { kind = Some (Symbol b); more = 0 })
sign_is_part b bs sign alone = record {
  within = omega arith;
  is_part = (record { bytes_are = refl; printable = sign.printable; no_run = sign.no_run; no_single_quote = sign.no_single_quote; no_double_quote = sign.no_double_quote }, longest_sign b bs sign alone);
}

twin_is_part : (twin : TokenKind) (b : ℕ) (bs : List ℕ) → IsSign b → b ≢ 47 → IsLexeme twin (b ∷ b ∷ []) → OkIsPart b bs (twin_or_symbol twin b bs)
unfolding twin_or_symbol
twin_is_part twin b [] sign no_slash is = sign_is_part b [] sign (λ c more e. cc)
twin_is_part twin b (c ∷ more) sign no_slash is =
    cond_both (eqb c b) _ _ (OkIsPart b (c ∷ more))
    (λ twice. let same : b ≡ c = sym (eqb-true c b twice) in record {
      within = omega arith;
      is_part = (subst (λ x. IsLexeme twin (b ∷ x ∷ [])) same is, subst (λ x. IsLongest (b ∷ x ∷ []) more) same (longest_twin b more sign no_slash));
    })
    (λ once. sign_is_part b (c ∷ more) sign (λ d others e.
    let same : c ≡ d = cc in record {
      no_twin = λ _ d_is. eqb-false c b once (same ∙ d_is);
      no_line_comment = λ b_is _. no_slash b_is;
      no_block_comment = λ b_is _. no_slash b_is;
    }))

-- `:`, `%` and `/` are signs
signs : IsSign 58 × IsSign 37 × IsSign 47
unfolding is_printable is_run_byte is_letter is_digit
signs = (
  record { printable = refl; no_run = refl; no_single_quote = λ e. omega arith; no_double_quote = λ e. omega arith },
  record { printable = refl; no_run = refl; no_single_quote = λ e. omega arith; no_double_quote = λ e. omega arith },
  record { printable = refl; no_run = refl; no_single_quote = λ e. omega arith; no_double_quote = λ e. omega arith },
)

line_byte_fails : (b : ℕ) → is_line_byte b ≡ false → b ≡ 10
unfolding is_line_byte is_line_feed
line_byte_fails b fails = eqb-true b 10 (not-false (eqb b 10) fails)

ends_line : (rest : List ℕ) → Stops is_line_byte rest → EndsLine rest
ends_line [] stops = tt
ends_line (b ∷ rest) stops = line_byte_fails b stops

line_comment_is_part : (bs : List ℕ) → PieceIsPart 47 (47 ∷ bs) (record { kind = None; more = prefix_len is_line_byte bs + 1 })
line_comment_is_part bs =
    let n = prefix_len is_line_byte bs in
    record {
      within = omega (arith, prefix_len-le-length is_line_byte bs);
      is_part = rw add-one (line_comment
          (record { body = take n bs; bytes_are = refl; one_line = prefix_passes is_line_byte bs })
          (ends_line (drop n bs) (prefix_stops is_line_byte bs)));
    }

block_closed : (line : ℕ) (body more : List ℕ) → HasNoClose (body ++ 42 ∷ []) → OkIsPart 47 (42 ∷ (body ++ 42 ∷ 47 ∷ more)) (closed_comment line (comment_len (body ++ 42 ∷ 47 ∷ more)) (drop (comment_len (body ++ 42 ∷ 47 ∷ more)) (body ++ 42 ∷ 47 ∷ more)))
unfolding closed_comment
block_closed line body more none =
    rw (comment_len-of_body body more none, drop_at body (42 ∷ 47 ∷ more) (length body) refl)
    (record {
      within = omega (arith, length-append body (42 ∷ 47 ∷ more));
      is_part = subst (IsGap (47 ∷ take (length body + 3) (42 ∷ (body ++ 42 ∷ 47 ∷ more)))) (sym left) (block_comment (record { body = body; bytes_are = ap (λ xs. 47 ∷ xs) taken; is_next = none }));
    })
  where
    whole : 42 ∷ (body ++ 42 ∷ 47 ∷ more) ≡ (42 ∷ (body ++ 42 ∷ 47 ∷ [])) ++ more
    whole = ap (λ xs. 42 ∷ xs) (sym (append_assoc body (42 ∷ 47 ∷ []) more))

    size : length (42 ∷ (body ++ 42 ∷ 47 ∷ [])) ≡ length body + 3
    size = omega (arith, length-append body (42 ∷ 47 ∷ []))

    taken : take (length body + 3) (42 ∷ (body ++ 42 ∷ 47 ∷ more)) ≡ 42 ∷ (body ++ 42 ∷ 47 ∷ [])
    taken = ap (take (length body + 3)) whole ∙ take_at (42 ∷ (body ++ 42 ∷ 47 ∷ [])) more (length body + 3) size

    left : drop (length body + 3) (42 ∷ (body ++ 42 ∷ 47 ∷ more)) ≡ more
    left = ap (drop (length body + 3)) whole ∙ drop_at (42 ∷ (body ++ 42 ∷ 47 ∷ [])) more (length body + 3) size

block_comment_is_part : (line : ℕ) (bs : List ℕ) → CommentSplit bs → OkIsPart 47 (42 ∷ bs) (closed_comment line (comment_len bs) (drop (comment_len bs) bs))
unfolding closed_comment
block_comment_is_part line bs (closed body more are none) =
    subst (λ xs. OkIsPart 47 (42 ∷ xs) (closed_comment line (comment_len xs) (drop (comment_len xs) xs))) (sym are) (block_closed line body more none)
block_comment_is_part line bs (open_ended none) =
    let past : drop (length bs) bs ≡ [] = drop_all (length bs) bs (omega arith) in
    rw (comment_len-of_open bs none, past) tt

slash_is_part : (line : ℕ) (bs : List ℕ) → OkIsPart 47 bs (slash_piece line bs)
unfolding slash_piece
slash_is_part line [] = sign_is_part 47 [] signs.2 (λ c more e. cc)
slash_is_part line (c ∷ bs) =
    cond_both (eqb c 47) _ _ (OkIsPart 47 (c ∷ bs))
    (λ same. let is : 47 ≡ c = sym (eqb-true c 47 same) in subst (λ x. PieceIsPart 47 (x ∷ bs) (record { kind = None; more = prefix_len is_line_byte bs + 1 })) is (line_comment_is_part bs))
    (λ no_slash. cond_both (eqb c 42) _ _ (OkIsPart 47 (c ∷ bs))
    (λ same. let is : 42 ≡ c = sym (eqb-true c 42 same) in
    subst (λ x. OkIsPart 47 (x ∷ bs) (closed_comment line (comment_len bs) (drop (comment_len bs) bs))) is (block_comment_is_part line bs (comment_split bs)))
    (λ no_star. sign_is_part 47 (c ∷ bs) signs.2 (λ d others e.
    let same : d ≡ c = cc in record {
      no_twin = λ which _. ⊎_elim (λ e. omega arith) (λ e. omega arith) which;
      no_line_comment = λ _ d_is. eqb-false c 47 no_slash (sym same ∙ d_is);
      no_block_comment = λ _ d_is. eqb-false c 42 no_star (sym same ∙ d_is);
    })))

run_is_part : (b : ℕ) (bs : List ℕ) → is_run_byte b ≡ true → PieceIsPart b bs (record { kind = Some (run_kind b); more = prefix_len is_run_byte bs })
run_is_part b bs runs =
    let n = prefix_len is_run_byte bs in
    let longest = longest_run b (take n bs) (drop n bs) runs (prefix_stops is_run_byte bs) in
    cond_both (is_digit b) Number Word (λ kind. PieceIsPart b bs (record { kind = Some kind; more = n }))
    (λ digit. record {
      within = prefix_len-le-length is_run_byte bs;
      is_part = (record { byte = b; others = take n bs; bytes_are = refl; begins = digit; goes_on = prefix_passes is_run_byte bs }, longest);
    })
    (λ no_digit. record {
      within = prefix_len-le-length is_run_byte bs;
      is_part = (record { byte = b; others = take n bs; bytes_are = refl; begins = run_is_letter b runs no_digit; goes_on = prefix_passes is_run_byte bs }, longest);
    })

text_is_part : (line b : ℕ) (bs : List ℕ) → b ≡ 34 → TextSplit bs → OkIsPart b bs (closed_by 34 Text line (text_len false bs) (drop (text_len false bs) bs))
text_is_part line b bs first (ended content rest is content_is ends) =
    let len : text_len false bs ≡ length content = ap (text_len false) is ∙ text_len-of_content content rest content_is ends in
    let whole : take (text_len false bs) bs ≡ content = rw (len, is) (take_at content rest (length content) refl) in
    closed_is_part 34 Text line b (text_len false bs) bs _ first refl (λ c more _. subst (λ xs. IsPart (lexeme Text (34 ∷ xs ++ 34 ∷ [])) more) (sym whole) (text_part content more content_is))
text_is_part line b bs first (cut_off content is content_is len) =
    closed_is_part 34 Text line b (text_len false bs) bs _ first refl (λ c more e. absurd (omega (arith, ap length e, length-drop (text_len false bs) bs, len)))

pub piece_is_part : (line b : ℕ) (bs : List ℕ) → OkIsPart b bs (first_piece line b bs)
unfolding first_piece
piece_is_part line b bs =
    cond_both (is_run_byte b) _ _ (OkIsPart b bs) (λ runs. run_is_part b bs runs)
    (λ no_run. cond_both (is_separator b) _ _ (OkIsPart b bs)
    (λ separates. record { within = omega arith; is_part = separator (record { byte = b; bytes_are = refl; separates = separates }) })
    (λ _. cond_both (eqb b 39) _ _ (OkIsPart b bs)
    (λ same. closed_is_part 39 Quoted line b (prefix_len is_quoted_byte bs) bs _ (eqb-true b 39 same) refl
    (λ c more _. quoted_part (take (prefix_len is_quoted_byte bs) bs) more (prefix_passes is_quoted_byte bs)))
    (λ no_single. cond_both (eqb b 34) _ _ (OkIsPart b bs)
    (λ same. text_is_part line b bs (eqb-true b 34 same) (text_split bs))
    (λ no_double. cond_both (eqb b 47) _ _ (OkIsPart b bs)
    (λ same. subst (λ x. OkIsPart x bs (slash_piece line bs)) (sym (eqb-true b 47 same)) (slash_is_part line bs))
    (λ no_slash. cond_both (eqb b 58) _ _ (OkIsPart b bs)
    (λ same. let is : 58 ≡ b = sym (eqb-true b 58 same) in
    twin_is_part Colons b bs (subst IsSign is signs.0) (eqb-false b 47 no_slash) (subst (λ x. IsLexeme Colons (x ∷ x ∷ [])) is refl))
    (λ no_colon. cond_both (eqb b 37) _ _ (OkIsPart b bs)
    (λ same. let is : 37 ≡ b = sym (eqb-true b 37 same) in
    twin_is_part Percents b bs (subst IsSign is signs.1) (eqb-false b 47 no_slash) (subst (λ x. IsLexeme Percents (x ∷ x ∷ [])) is refl))
    (λ no_percent. cond_both (is_printable b) _ _ (OkIsPart b bs)
    (λ printable. sign_is_part b bs
    (record { printable = printable; no_run = no_run; no_single_quote = eqb-false b 39 no_single; no_double_quote = eqb-false b 34 no_double })
    (λ c more _. record {
      no_twin = λ which _. ⊎_elim (eqb-false b 58 no_colon) (eqb-false b 37 no_percent) which;
      no_line_comment = λ b_is _. eqb-false b 47 no_slash b_is;
      no_block_comment = λ b_is _. eqb-false b 47 no_slash b_is;
    }))
    (λ _. tt))))))))
