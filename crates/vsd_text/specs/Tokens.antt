-- The token list of a text.
use Rattle.std.specs.Prelude.{◌≡◌, ◌≢◌, ◌≤◌, ℕ, slice_index, zero, suc, ◌+◌, ◌-◌, ◌==◌, ◌&&◌, ◌||◌, nat_eq, nat_lt, Bool, true, false, if◌then◌else◌, List, [], ◌∷◌, ◌++◌, length, drop, count_by, Option, Some, None, Result, Ok, Err}
use Rattle.std.specs.List.{prefix_len, starts_with}
use Rattle.std.specs.Option.{option_map, option_to_list}
use Rattle.vsd_text.specs.declared.tokens.TokenKind.{TokenKind}
use Rattle.vsd_text.specs.declared.tokens.TokenKind.TheVariants.{Word, Quoted, Number, Text, Symbol, Colons, Percents}
use Rattle.vsd_text.specs.declared.tokens.Token.{Token}
use Rattle.vsd_text.specs.declared.tokens.LexError.{LexError}
use Rattle.vsd_text.specs.declared.tokens.LexError.TheVariants.{BadByte, OpenComment, OpenQuote, TooLong, Memory}
use Rattle.vsd_text.specs.declared.pieces.Piece.{Piece}
use Rattle.vsd_text.specs.Bytes.{is_separator, is_line_feed, is_digit, is_run_byte, is_printable, is_quoted_byte, is_line_byte}

-- the refusal that an error is: want of memory is none
abbrev pub refusal_of : LexError → Option LexError
refusal_of (BadByte line) = Some (BadByte line)
refusal_of (OpenComment line) = Some (OpenComment line)
refusal_of (OpenQuote line) = Some (OpenQuote line)
refusal_of TooLong = Some TooLong
refusal_of Memory = None

-- the token's range lies in the text
pub record LiesWithin (text : List ℕ) (token : Token) : Type 0 where
  pub ordered : token.start ≤ token.end
  pub inside : token.end ≤ length text

-- how many line feeds stand in the bytes
abbrev pub line_feeds : List ℕ → ℕ
line_feeds bs = count_by is_line_feed bs

-- the first byte is b
abbrev pub begins_with : ℕ → List ℕ → Bool
begins_with b [] = false
begins_with b (c ∷ cs) = c == b

-- n bytes after the first one that stand between tokens
abbrev pub gap_piece : ℕ → Result Piece LexError
gap_piece n = Ok (record { kind = None; more = n })

-- a token of this kind, with n bytes after its first one
abbrev pub token_piece : TokenKind → ℕ → Result Piece LexError
token_piece kind n = Ok (record { kind = Some kind; more = n })

-- the Symbol b, or the token of two such bytes where the next one of bs is the same
unfoldable pub twin_or_symbol : TokenKind → ℕ → List ℕ → Result Piece LexError
twin_or_symbol twin b bs = if begins_with b bs then token_piece twin 1 else token_piece (Symbol b) 0

-- How many of the bytes stand before the double quote or the line feed that ends a Text token. A
-- backslash takes the next byte along: `taken` says that one stands before the first byte.
unfoldable pub text_len : Bool → List ℕ → ℕ
text_len taken [] = 0
text_len true (b ∷ bs) = 1 + text_len false bs
text_len false (b ∷ bs) = if b == 34 || b == 10 then 0 else 1 + text_len (b == 92) bs

-- how many of the bytes stand before the first `*/`
unfoldable pub comment_len : List ℕ → ℕ
comment_len [] = 0
comment_len (b ∷ bs) = if b == 42 && begins_with 47 bs then 0 else 1 + comment_len bs

-- A token between two of this quote, with n bytes between them, where these bytes follow.
unfoldable pub closed_by : ℕ → TokenKind → ℕ → ℕ → List ℕ → Result Piece LexError
closed_by quote kind line n [] = Err (OpenQuote line)
closed_by quote kind line n (b ∷ bs) =
    if b == quote then token_piece kind (n + 1) else (if b == 10 then Err (OpenQuote line) else Err (BadByte line))

-- A comment from `/*` on, with n bytes after that, where these bytes follow.
unfoldable pub closed_comment : ℕ → ℕ → List ℕ → Result Piece LexError
closed_comment line n [] = Err (OpenComment line)
closed_comment line n (b ∷ bs) = gap_piece (n + 3)

-- what begins with a `/`: a comment, or the Symbol
unfoldable pub slash_piece : ℕ → List ℕ → Result Piece LexError
slash_piece line [] = token_piece (Symbol 47) 0
slash_piece line (b ∷ bs) =
    if b == 47 then gap_piece (prefix_len is_line_byte bs + 1)
    else (if b == 42 then closed_comment line (comment_len bs) (drop (comment_len bs) bs)
    else token_piece (Symbol 47) 0)

-- what a run is that begins with this byte
abbrev pub run_kind : ℕ → TokenKind
run_kind b = if is_digit b then Number else Word

-- What stands where no token is begun, on this line, at the byte b with the bytes bs after it.
unfoldable pub first_piece : ℕ → ℕ → List ℕ → Result Piece LexError
first_piece line b bs =
    if is_run_byte b then token_piece (run_kind b) (prefix_len is_run_byte bs)
    else (if is_separator b then gap_piece 0
    else (if b == 39 then closed_by 39 Quoted line (prefix_len is_quoted_byte bs) (drop (prefix_len is_quoted_byte bs) bs)
    else (if b == 34 then closed_by 34 Text line (text_len false bs) (drop (text_len false bs) bs)
    else (if b == 47 then slash_piece line bs
    else (if b == 58 then twin_or_symbol Colons b bs
    else (if b == 37 then twin_or_symbol Percents b bs
    else (if is_printable b then token_piece (Symbol b) 0
    else Err (BadByte line))))))))

-- the piece at this place of a text, whatever its line
abbrev pub IsPieceAt : List ℕ → ℕ → Piece → Type 0
IsPieceAt text at piece = (line : ℕ) × (first_piece line (slice_index text at) (drop (at + 1) text) ≡ Ok piece)

-- how many bytes on each side of a token are outside its range: its quotes
abbrev pub margin : TokenKind → ℕ
margin Quoted = 1
margin Text = 1
margin _ = 0

-- the piece is a token that holds no line feed, whatever it holds
abbrev pub IsOneLineToken : Piece → Type 0
IsOneLineToken piece = (kind : TokenKind) × ((piece.kind ≡ Some kind) × (kind ≢ Text))

-- the token that begins at this place and line and has n bytes after its first one, quotes included
unfoldable pub token_at : ℕ → ℕ → TokenKind → ℕ → Token
token_at place line kind n = record {
  kind = kind;
  start = place + margin kind;
  end = place + 1 + n - margin kind;
  line = line;
}

-- the token, if it is one, of a piece that begins at this place and line
unfoldable pub tokens_at : ℕ → ℕ → Piece → List Token
tokens_at place line piece = option_to_list (option_map (λ kind. token_at place line kind piece.more) piece.kind)

-- these tokens before those of what follows them
unfoldable pub before : List Token → Result (List Token) LexError → Result (List Token) LexError
before tokens (Ok others) = Ok (tokens ++ others)
before tokens (Err refusal) = Err refusal

-- What a piece at this place and line gives, where `after n` is what the text gives once n bytes after
-- the piece's first one are passed over.
unfoldable pub with_piece : ℕ → ℕ → Result Piece LexError → (ℕ → Result (List Token) LexError) → Result (List Token) LexError
with_piece place line (Ok piece) after = before (tokens_at place line piece) (after piece.more)
with_piece place line (Err refusal) after = Err refusal

-- The tokens of what is left of a text, from this place and line on, where so many bytes of it still
-- belong to the piece before.
unfoldable pub tokens_from : ℕ → ℕ → ℕ → List ℕ → Result (List Token) LexError
tokens_from place line passing [] = Ok []
tokens_from place line (suc passing) (b ∷ bs) =
    tokens_from (place + 1) (line + line_feeds (b ∷ [])) passing bs
tokens_from place line zero (b ∷ bs) =
    with_piece place line (first_piece line b bs) (λ n. tokens_from (place + 1) (line + line_feeds (b ∷ [])) n bs)

-- the most bytes that a text may have
abbrev pub text_limit : ℕ
text_limit = 4194304

-- the bytes EF BB BF, which stand for nothing at the very start of a text
abbrev pub byte_order_mark : List ℕ
byte_order_mark = 239 ∷ 187 ∷ 191 ∷ []

-- how many bytes of the text are its byte order mark
unfoldable pub mark_len : List ℕ → ℕ
mark_len text = if starts_with nat_eq text byte_order_mark then 3 else 0

-- the tokens of a text, or its first refusal
unfoldable pub tokens_of : List ℕ → Result (List Token) LexError
tokens_of text = if nat_lt text_limit (length text) then Err TooLong else tokens_from 0 1 (mark_len text) text
