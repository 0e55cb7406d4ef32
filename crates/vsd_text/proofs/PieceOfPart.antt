-- A part of the text is a piece.
use Rattle.std.proofs.Common.{◌≡◌, ℕ, suc, ◌+◌, List, [], ◌∷◌, ◌++◌, length, drop, true, false, eqb, Option, Some, None, Ok, refl, sym, ap, ◌∙◌, subst, arith, inl, append_assoc}
use Rattle.std.specs.List.{prefix_len, AllPass}
use Rattle.std.proofs.Math.Numerals.{add-one}
use Rattle.std.proofs.lemmas.Bool.{cond_both, eqb-true, eq-eqb, ne_eqb, false_from_ne_true}
use Rattle.std.proofs.lemmas.List.{length-append, drop_at}
use Rattle.std.proofs.lemmas.List.Elements.{All-cons, All-nil, All-append}
use Rattle.vsd_text.specs.Bytes.{is_separator, is_digit, is_letter, is_run_byte, is_quoted_byte, is_line_byte, is_line_feed}
use Rattle.vsd_text.specs.Tokens.{first_piece, twin_or_symbol, closed_by, slash_piece, closed_comment, text_len, token_piece}
use Rattle.vsd_text.specs.Spelling.{IsRun, IsQuoted, IsText, IsSymbol, IsLexeme, IsLongest, IsSeparator, IsLineComment, IsBlockComment, EndsLine, IsGap, Part, gap, lexeme, separator, line_comment, block_comment, bytes_of, IsPart}
use Rattle.vsd_text.specs.declared.tokens.TokenKind.{TokenKind}
use Rattle.vsd_text.specs.declared.tokens.TokenKind.TheVariants.{Word, Quoted, Number, Text, Symbol, Colons, Percents}
use Rattle.vsd_text.proofs.Classes.{letter_runs, digit_runs, letter_is_no_digit, printable_is_no_separator, separator_is_no_run_byte}
use Rattle.vsd_text.proofs.Prefixes.{Stops, prefix_len-of_prefix}
use Rattle.vsd_text.proofs.Parts.{quote_ends}
use Rattle.vsd_text.proofs.Quotes.{text_len-of_content}
use Rattle.vsd_text.proofs.Comments.{comment_len-of_body}

-- the kind of the token that a part is
abbrev pub kind_of : Part → Option TokenKind
kind_of (gap bs) = None
kind_of (lexeme kind bs) = Some kind

-- the part's bytes, and the piece that they are where the rest follows
pub record PartIsPiece (part : Part) (rest : List ℕ) : Type 0 where
  pub byte : ℕ
  pub others : List ℕ
  pub bytes_are : bytes_of part ≡ byte ∷ others
  pub piece_is : (line : ℕ) → first_piece line byte (others ++ rest) ≡ Ok (record { kind = kind_of part; more = length others })

-- the longest run ends where a byte follows that is in none
longest_stops : (b : ℕ) (bs rest : List ℕ) (kind : TokenKind) → ((others : List ℕ) → AllPass is_run_byte others → IsLexeme kind (b ∷ others)) → AllPass is_run_byte bs → IsLongest (b ∷ bs) rest → Stops is_run_byte rest
longest_stops b bs [] kind makes all longest = tt
longest_stops b bs (c ∷ more) kind makes all longest =
    false_from_ne_true (is_run_byte c) (λ runs.
    longest.no_token kind [] (makes (bs ++ c ∷ []) (All-append (λ x. is_run_byte x ≡ true) bs (c ∷ []) all (All-cons (λ x. is_run_byte x ≡ true) c [] runs (All-nil (λ x. is_run_byte x ≡ true))))))

number_is_piece : (bs rest : List ℕ) → IsRun is_digit bs → IsLongest bs rest → PartIsPiece (lexeme Number bs) rest
unfolding first_piece
number_is_piece bs rest r longest =
    let stops = longest_stops r.byte r.others rest Number (λ others all. record { byte = r.byte; others = others; bytes_are = refl; begins = r.begins; goes_on = all }) r.goes_on (subst (λ xs. IsLongest xs rest) r.bytes_are longest) in
    let runs = digit_runs r.byte r.begins in
    record {
      byte = r.byte;
      others = r.others;
      bytes_are = r.bytes_are;
      piece_is = λ line. rw (runs, r.begins, prefix_len-of_prefix is_run_byte r.others rest r.goes_on stops) refl;
    }

word_is_piece : (bs rest : List ℕ) → IsRun is_letter bs → IsLongest bs rest → PartIsPiece (lexeme Word bs) rest
unfolding first_piece
word_is_piece bs rest r longest =
    let stops = longest_stops r.byte r.others rest Word (λ others all. record { byte = r.byte; others = others; bytes_are = refl; begins = r.begins; goes_on = all }) r.goes_on (subst (λ xs. IsLongest xs rest) r.bytes_are longest) in
    let runs = letter_runs r.byte r.begins in
    record {
      byte = r.byte;
      others = r.others;
      bytes_are = r.bytes_are;
      piece_is = λ line. rw (runs, letter_is_no_digit r.byte r.begins, prefix_len-of_prefix is_run_byte r.others rest r.goes_on stops) refl;
    }

-- at a single quote, a double quote and a `/`
pub at_single_quote : (line : ℕ) (bs : List ℕ) → first_piece line 39 bs ≡ closed_by 39 Quoted line (prefix_len is_quoted_byte bs) (drop (prefix_len is_quoted_byte bs) bs)
unfolding first_piece is_run_byte is_letter is_digit is_separator
at_single_quote line bs = refl

pub at_double_quote : (line : ℕ) (bs : List ℕ) → first_piece line 34 bs ≡ closed_by 34 Text line (text_len false bs) (drop (text_len false bs) bs)
unfolding first_piece is_run_byte is_letter is_digit is_separator
at_double_quote line bs = refl

pub at_slash : (line : ℕ) (bs : List ℕ) → first_piece line 47 bs ≡ slash_piece line bs
unfolding first_piece is_run_byte is_letter is_digit is_separator
at_slash line bs = refl

closed_here : (quote : ℕ) (kind : TokenKind) (line n : ℕ) (rest : List ℕ) → closed_by quote kind line n (quote ∷ rest) ≡ token_piece kind (n + 1)
unfolding closed_by
closed_here quote kind line n rest = rw (eq-eqb quote quote refl) refl

-- what is read between quotes, where n bytes of content stand before the closing one
closed_after : (quote : ℕ) (kind : TokenKind) (line n : ℕ) (content rest : List ℕ) → n ≡ length content → closed_by quote kind line n (drop n (content ++ quote ∷ rest)) ≡ Ok (record { kind = Some kind; more = length (content ++ quote ∷ []) })
closed_after quote kind line n content rest len =
    let left : drop n (content ++ quote ∷ rest) ≡ quote ∷ rest = drop_at content (quote ∷ rest) n (sym len) in
    let size : n + 1 ≡ length (content ++ quote ∷ []) = omega (arith, len, length-append content (quote ∷ [])) in
    ap (closed_by quote kind line n) left ∙ closed_here quote kind line n rest ∙ ap (token_piece kind) size

quoted_is_piece : (bs rest : List ℕ) → IsQuoted bs → PartIsPiece (lexeme Quoted bs) rest
quoted_is_piece bs rest r = record {
  byte = 39;
  others = r.content ++ 39 ∷ [];
  bytes_are = r.bytes_are;
  piece_is = λ line.
      at_single_quote line ((r.content ++ 39 ∷ []) ++ rest)
      ∙ ap (λ xs. closed_by 39 Quoted line (prefix_len is_quoted_byte xs) (drop (prefix_len is_quoted_byte xs) xs)) (append_assoc r.content (39 ∷ []) rest)
      ∙ closed_after 39 Quoted line (prefix_len is_quoted_byte (r.content ++ 39 ∷ rest)) r.content rest (prefix_len-of_prefix is_quoted_byte r.content (39 ∷ rest) r.is_content quote_ends);
}

text_is_piece : (bs rest : List ℕ) → IsText bs → PartIsPiece (lexeme Text bs) rest
text_is_piece bs rest r = record {
  byte = 34;
  others = r.content ++ 34 ∷ [];
  bytes_are = r.bytes_are;
  piece_is = λ line.
      at_double_quote line ((r.content ++ 34 ∷ []) ++ rest)
      ∙ ap (λ xs. closed_by 34 Text line (text_len false xs) (drop (text_len false xs) xs)) (append_assoc r.content (34 ∷ []) rest)
      ∙ closed_after 34 Text line (text_len false (r.content ++ 34 ∷ rest)) r.content rest (text_len-of_content r.content (34 ∷ rest) r.is_content (inl refl));
}

-- a lone `:`, `%` or `/` is its Symbol
lone_symbol : (twin : TokenKind) (b : ℕ) (rest : List ℕ) → IsLexeme twin (b ∷ b ∷ []) → IsLongest (b ∷ []) rest → twin_or_symbol twin b rest ≡ token_piece (Symbol b) 0
unfolding twin_or_symbol
lone_symbol twin b [] is longest = refl
lone_symbol twin b (c ∷ more) is longest =
    let differs : eqb c b ≡ false = false_from_ne_true (eqb c b) (λ twice.
    longest.no_token twin [] (subst (λ x. IsLexeme twin (b ∷ x ∷ [])) (sym (eqb-true c b twice)) is)) in
    rw differs refl

lone_slash : (line : ℕ) (rest : List ℕ) → IsLongest (47 ∷ []) rest → slash_piece line rest ≡ token_piece (Symbol 47) 0
unfolding slash_piece
lone_slash line [] longest = refl
lone_slash line (c ∷ more) longest =
    let no_slash = ne_eqb c 47 (λ same. longest.no_line_comment (ap (λ x. 47 ∷ x ∷ []) same)) in
    let no_star = ne_eqb c 42 (λ same. longest.no_block_comment (ap (λ x. 47 ∷ x ∷ []) same)) in
    rw (no_slash, no_star) refl

symbol_is_piece : (b : ℕ) (bs rest : List ℕ) → IsSymbol b bs → IsLongest bs rest → PartIsPiece (lexeme (Symbol b) bs) rest
unfolding first_piece
symbol_is_piece b bs rest r longest = record {
  byte = b;
  others = [];
  bytes_are = r.bytes_are;
  piece_is = λ line.
      rw (r.no_run, printable_is_no_separator b r.printable, ne_eqb b 39 r.no_single_quote, ne_eqb b 34 r.no_double_quote)
      (cond_both (eqb b 47) _ _ (λ p. p ≡ token_piece (Symbol b) 0)
      (λ same. subst (λ x. slash_piece line rest ≡ token_piece (Symbol x) 0) (sym (eqb-true b 47 same)) (lone_slash line rest (subst (λ x. IsLongest (x ∷ []) rest) (eqb-true b 47 same) here)))
      (λ _. cond_both (eqb b 58) _ _ (λ p. p ≡ token_piece (Symbol b) 0)
      (λ same. lone_symbol Colons b rest (subst (λ x. IsLexeme Colons (x ∷ x ∷ [])) (sym (eqb-true b 58 same)) refl) here)
      (λ _. cond_both (eqb b 37) _ _ (λ p. p ≡ token_piece (Symbol b) 0)
      (λ same. lone_symbol Percents b rest (subst (λ x. IsLexeme Percents (x ∷ x ∷ [])) (sym (eqb-true b 37 same)) refl) here)
      (λ _. rw r.printable refl))));
}
  where
    here : IsLongest (b ∷ []) rest
    here = subst (λ xs. IsLongest xs rest) r.bytes_are longest

colons_are_piece : (rest : List ℕ) → PartIsPiece (lexeme Colons (58 ∷ 58 ∷ [])) rest
unfolding first_piece twin_or_symbol is_run_byte is_letter is_digit is_separator
colons_are_piece rest = record { byte = 58; others = 58 ∷ []; bytes_are = refl; piece_is = λ line. refl }

percents_are_piece : (rest : List ℕ) → PartIsPiece (lexeme Percents (37 ∷ 37 ∷ [])) rest
unfolding first_piece twin_or_symbol is_run_byte is_letter is_digit is_separator
percents_are_piece rest = record { byte = 37; others = 37 ∷ []; bytes_are = refl; piece_is = λ line. refl }

separator_is_piece : (bs rest : List ℕ) → IsSeparator bs → PartIsPiece (gap bs) rest
unfolding first_piece
separator_is_piece bs rest r = record {
  byte = r.byte;
  others = [];
  bytes_are = r.bytes_are;
  piece_is = λ line. rw (separator_is_no_run_byte r.byte r.separates, r.separates) refl;
}

stops_line : (rest : List ℕ) → EndsLine rest → Stops is_line_byte rest
unfolding is_line_byte is_line_feed
stops_line [] ends = tt
stops_line (b ∷ rest) ends = rw ends refl

line_comment_is_piece : (bs rest : List ℕ) → IsLineComment bs → EndsLine rest → PartIsPiece (gap bs) rest
unfolding slash_piece
line_comment_is_piece bs rest r ends = record {
  byte = 47;
  others = 47 ∷ r.body;
  bytes_are = r.bytes_are;
  piece_is = λ line.
      at_slash line (47 ∷ (r.body ++ rest))
      ∙ rw (prefix_len-of_prefix is_line_byte r.body rest r.one_line (stops_line rest ends), add-one) refl;
}

block_comment_is_piece : (bs rest : List ℕ) → IsBlockComment bs → PartIsPiece (gap bs) rest
unfolding slash_piece closed_comment
block_comment_is_piece bs rest r = record {
  byte = 47;
  others = 42 ∷ (r.body ++ 42 ∷ 47 ∷ []);
  bytes_are = r.bytes_are;
  piece_is = λ line.
      let bytes : (r.body ++ 42 ∷ 47 ∷ []) ++ rest ≡ r.body ++ 42 ∷ 47 ∷ rest = append_assoc r.body (42 ∷ 47 ∷ []) rest in
      let size : length r.body + 3 ≡ suc (length (r.body ++ 42 ∷ 47 ∷ [])) = omega (arith, length-append r.body (42 ∷ 47 ∷ [])) in
      at_slash line (42 ∷ ((r.body ++ 42 ∷ 47 ∷ []) ++ rest))
      ∙ rw (bytes, comment_len-of_body r.body rest r.is_next, drop_at r.body (42 ∷ 47 ∷ rest) (length r.body) refl, size) refl;
}

gap_is_piece : (bs rest : List ℕ) → IsGap bs rest → PartIsPiece (gap bs) rest
gap_is_piece bs rest (separator r) = separator_is_piece bs rest r
gap_is_piece bs rest (line_comment r ends) = line_comment_is_piece bs rest r ends
gap_is_piece bs rest (block_comment r) = block_comment_is_piece bs rest r

pub part_is_piece : (part : Part) (rest : List ℕ) → IsPart part rest → PartIsPiece part rest
part_is_piece (gap bs) rest is = gap_is_piece bs rest is
part_is_piece (lexeme Word bs) rest is = word_is_piece bs rest is.0 is.1
part_is_piece (lexeme Quoted bs) rest is = quoted_is_piece bs rest is.0
part_is_piece (lexeme Number bs) rest is = number_is_piece bs rest is.0 is.1
part_is_piece (lexeme Text bs) rest is = text_is_piece bs rest is.0
part_is_piece (lexeme (Symbol b) bs) rest is = symbol_is_piece b bs rest is.0 is.1
part_is_piece (lexeme Colons bs) rest is = subst (λ xs. PartIsPiece (lexeme Colons xs) rest) (sym is.0) (colons_are_piece rest)
part_is_piece (lexeme Percents bs) rest is = subst (λ xs. PartIsPiece (lexeme Percents xs) rest) (sym is.0) (percents_are_piece rest)
