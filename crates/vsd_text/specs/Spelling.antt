-- The token list of a text once more, said of the whole text and of what stands at each place in it.
use Rattle.std.specs.Prelude.{◌≡◌, ◌≢◌, ◌⊎◌, ◌<◌, ℕ, ◌+◌, ◌-◌, Bool, true, false, List, [], ◌∷◌, ◌++◌, length, take, drop, slice_index}
use Rattle.std.specs.List.{AllPass}
use Rattle.vsd_text.specs.declared.tokens.TokenKind.{TokenKind}
use Rattle.vsd_text.specs.declared.tokens.TokenKind.TheVariants.{Word, Quoted, Number, Text, Symbol, Colons, Percents}
use Rattle.vsd_text.specs.declared.tokens.Token.{Token}
use Rattle.vsd_text.specs.declared.tokens.LexError.{LexError}
use Rattle.vsd_text.specs.declared.tokens.LexError.TheVariants.{BadByte, OpenComment, OpenQuote, TooLong, Memory}
use Rattle.vsd_text.specs.Bytes.{is_separator, is_digit, is_letter, is_run_byte, is_printable, is_quoted_byte, is_line_byte}
use Rattle.vsd_text.specs.Tokens.{line_feeds, margin, mark_len}

-- bytes that pass this test at the first one, and are run bytes after it
pub record IsRun (first : ℕ → Bool) (bs : List ℕ) : Type 0 where
  pub byte : ℕ
  pub others : List ℕ
  pub bytes_are : bs ≡ byte ∷ others
  pub begins : first byte ≡ true
  pub goes_on : AllPass is_run_byte others

-- bytes between two single quotes
pub record IsQuoted (bs : List ℕ) : Type 0 where
  pub content : List ℕ
  pub bytes_are : bs ≡ 39 ∷ content ++ 39 ∷ []
  pub is_content : AllPass is_quoted_byte content

-- a byte that stands for itself between double quotes
pub record IsPlain (byte : ℕ) : Type 0 where
  pub no_quote : byte ≢ 34
  pub no_line_feed : byte ≢ 10
  pub no_backslash : byte ≢ 92

-- Each byte stands for itself, but a backslash takes the next byte along, whatever that is.
abbrev pub IsContent : List ℕ → Type 0
IsContent [] = Unit {0}
IsContent (b ∷ []) = IsPlain b
IsContent (b ∷ c ∷ bs) = (IsPlain b × IsContent (c ∷ bs)) ⊎ ((b ≡ 92) × IsContent bs)

-- a content between two double quotes
pub record IsText (bs : List ℕ) : Type 0 where
  pub content : List ℕ
  pub bytes_are : bs ≡ 34 ∷ content ++ 34 ∷ []
  pub is_content : IsContent content

-- the one byte of a Symbol
pub record IsSymbol (byte : ℕ) (bs : List ℕ) : Type 0 where
  pub bytes_are : bs ≡ byte ∷ []
  pub printable : is_printable byte ≡ true
  pub no_run : is_run_byte byte ≡ false
  pub no_single_quote : byte ≢ 39
  pub no_double_quote : byte ≢ 34

-- the bytes spell one token of this kind
abbrev pub IsLexeme : TokenKind → List ℕ → Type 0
IsLexeme Word bs = IsRun is_letter bs
IsLexeme Quoted bs = IsQuoted bs
IsLexeme Number bs = IsRun is_digit bs
IsLexeme Text bs = IsText bs
IsLexeme (Symbol byte) bs = IsSymbol byte bs
IsLexeme Colons bs = bs ≡ 58 ∷ 58 ∷ []
IsLexeme Percents bs = bs ≡ 37 ∷ 37 ∷ []

-- no token begins with these bytes and the next one, and no comment is opened by them: a token here
-- can't be longer
pub record EndsToken (bs : List ℕ) (next : ℕ) : Type 0 where
  pub no_token : (kind : TokenKind) (others : List ℕ) → IsLexeme kind (bs ++ next ∷ others) → ⊥
  pub no_line_comment : bs ++ next ∷ [] ≢ 47 ∷ 47 ∷ []
  pub no_block_comment : bs ++ next ∷ [] ≢ 47 ∷ 42 ∷ []

-- the bytes are a token that ends where the rest begins
abbrev pub IsLongest : List ℕ → List ℕ → Type 0
IsLongest bs [] = Unit {0}
IsLongest bs (next ∷ rest) = EndsToken bs next

-- no `*/` stands in the bytes
abbrev pub HasNoClose : List ℕ → Type 0
HasNoClose bs = (prefix back : List ℕ) → bs ≡ prefix ++ 42 ∷ 47 ∷ back → ⊥

-- one separator
pub record IsSeparator (bs : List ℕ) : Type 0 where
  pub byte : ℕ
  pub bytes_are : bs ≡ byte ∷ []
  pub separates : is_separator byte ≡ true

-- `//` and bytes of one line
pub record IsLineComment (bs : List ℕ) : Type 0 where
  pub body : List ℕ
  pub bytes_are : bs ≡ 47 ∷ 47 ∷ body
  pub one_line : AllPass is_line_byte body

-- the bytes from `/*` to the next `*/`
pub record IsBlockComment (bs : List ℕ) : Type 0 where
  pub body : List ℕ
  pub bytes_are : bs ≡ 47 ∷ 42 ∷ body ++ 42 ∷ 47 ∷ []
  pub is_next : HasNoClose (body ++ 42 ∷ [])

-- a line ends where these bytes begin
abbrev pub EndsLine : List ℕ → Type 0
EndsLine [] = Unit {0}
EndsLine (b ∷ bs) = b ≡ 10

-- the bytes stand between tokens, where the rest follows
pub data IsGap (bs rest : List ℕ) : Type 0 where
  separator : IsSeparator bs → IsGap bs rest
  line_comment : IsLineComment bs → EndsLine rest → IsGap bs rest
  block_comment : IsBlockComment bs → IsGap bs rest

-- a part of a text: bytes between tokens, or those of one token with its quotes
pub data Part : Type 0 where
  gap : List ℕ → Part
  lexeme : TokenKind → List ℕ → Part

abbrev pub bytes_of : Part → List ℕ
bytes_of (gap bs) = bs
bytes_of (lexeme kind bs) = bs

-- the parts joined
abbrev pub text_of : List Part → List ℕ
text_of [] = []
text_of (part ∷ parts) = bytes_of part ++ text_of parts

-- the part may stand where the rest follows
abbrev pub IsPart : Part → List ℕ → Type 0
IsPart (gap bs) rest = IsGap bs rest
IsPart (lexeme kind bs) rest = IsLexeme kind bs × IsLongest bs rest

-- each part may stand where it does, with the rest after the last one
abbrev pub AreParts : List Part → List ℕ → Type 0
AreParts [] rest = Unit {0}
AreParts (part ∷ parts) rest = IsPart part (text_of parts ++ rest) × AreParts parts rest

-- the tokens among the parts that begin at this place, on this line
abbrev pub tokens_in : ℕ → ℕ → List Part → List Token
tokens_in place line [] = []
tokens_in place line (gap bs ∷ parts) = tokens_in (place + length bs) (line + line_feeds bs) parts
tokens_in place line (lexeme kind bs ∷ parts) =
    record {
      kind = kind;
      start = place + margin kind;
      end = place + length bs - margin kind;
      line = line;
    }
    ∷ tokens_in (place + length bs) (line + line_feeds bs) parts

-- the text after its byte order mark
abbrev pub body_of : List ℕ → List ℕ
body_of text = drop (mark_len text) text

-- after its mark the text is gaps and lexemes, and these are the tokens of its lexemes
pub record IsTokenList (text : List ℕ) (tokens : List Token) : Type 0 where
  pub parts : List Part
  pub text_is : body_of text ≡ text_of parts
  pub are_parts : AreParts parts []
  pub tokens_are : tokens ≡ tokens_in (mark_len text) 1 parts

-- a byte that stands in no part
pub record IsBad (bs : List ℕ) : Type 0 where
  pub byte : ℕ
  pub others : List ℕ
  pub bytes_are : bs ≡ byte ∷ others
  pub no_separator : is_separator byte ≡ false
  pub unprintable : is_printable byte ≡ false

-- a byte after a single quote and what may stand there that may not, and neither closes it nor ends the line
pub record IsBadQuoted (bs : List ℕ) : Type 0 where
  pub content : List ℕ
  pub byte : ℕ
  pub others : List ℕ
  pub bytes_are : bs ≡ 39 ∷ content ++ byte ∷ others
  pub is_content : AllPass is_quoted_byte content
  pub no_content : is_quoted_byte byte ≡ false
  pub no_quote : byte ≢ 39
  pub no_line_feed : byte ≢ 10

-- a `/*` with no `*/` after it
pub record IsOpenComment (bs : List ℕ) : Type 0 where
  pub body : List ℕ
  pub bytes_are : bs ≡ 47 ∷ 42 ∷ body
  pub has_no_close : HasNoClose body

-- a single quote that is not closed on its line
pub record IsOpenQuoted (bs : List ℕ) : Type 0 where
  pub content : List ℕ
  pub rest : List ℕ
  pub bytes_are : bs ≡ 39 ∷ content ++ rest
  pub is_content : AllPass is_quoted_byte content
  pub ends : EndsLine rest

-- a double quote that is not closed before a line feed that no backslash takes, or the end
pub record IsOpenText (bs : List ℕ) : Type 0 where
  pub content : List ℕ
  pub rest : List ℕ
  pub bytes_are : bs ≡ 34 ∷ content ++ rest
  pub is_content : IsContent content
  pub ends : EndsLine rest ⊎ (rest ≡ 92 ∷ [])

-- what begins here, on this line, is refused so
abbrev pub IsRefusal : ℕ → List ℕ → LexError → Type 0
IsRefusal line bs (BadByte l) = (l ≡ line) × (IsBad bs ⊎ IsBadQuoted bs)
IsRefusal line bs (OpenComment l) = (l ≡ line) × IsOpenComment bs
IsRefusal line bs (OpenQuote l) = (l ≡ line) × (IsOpenQuoted bs ⊎ IsOpenText bs)
IsRefusal line bs TooLong = ⊥
IsRefusal line bs Memory = ⊥

-- after its mark the text is parts up to a place where it is refused so: the first refusal in the text
pub record HasRefusal (text : List ℕ) (refusal : LexError) : Type 0 where
  pub parts : List Part
  pub rest : List ℕ
  pub text_is : body_of text ≡ text_of parts ++ rest
  pub are_parts : AreParts parts rest
  pub is_refusal : IsRefusal (1 + line_feeds (text_of parts)) rest refusal

-- some list of parts spells bytes that begin with these
pub record CanBegin (prefix : List ℕ) : Type 0 where
  pub more : List ℕ
  pub parts : List Part
  pub is_text : prefix ++ more ≡ text_of parts
  pub are_parts : AreParts parts []

-- the byte at this place is the first one up to which, with itself, no parts can begin
pub record IsHopeless (bs : List ℕ) (at : ℕ) : Type 0 where
  pub in_range : at < length bs
  pub can_begin : CanBegin (take at bs)
  pub cannot : CanBegin (take (at + 1) bs) → ⊥

-- after its mark the text has such a byte on this line, and it is no line feed
pub record HasBadByte (text : List ℕ) (line : ℕ) : Type 0 where
  pub at : ℕ
  pub is_hopeless : IsHopeless (body_of text) at
  pub no_line_feed : slice_index (body_of text) at ≢ 10
  pub line_is : line ≡ 1 + line_feeds (take at (body_of text))

-- after its mark the text has such a byte, and it is a line feed
pub record HasBadLineFeed (text : List ℕ) : Type 0 where
  pub at : ℕ
  pub is_hopeless : IsHopeless (body_of text) at
  pub is_line_feed : slice_index (body_of text) at ≡ 10
