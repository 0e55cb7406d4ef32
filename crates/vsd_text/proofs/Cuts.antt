-- A text cut into its parts, and the tokens of parts.
use Rattle.std.proofs.Common.{◌≡◌, ℕ, zero, suc, ◌+◌, ◌-◌, List, [], ◌∷◌, ◌++◌, length, take, drop, Option, Some, None, Result, Ok, Err, refl, sym, ap, ◌∙◌, subst, arith, append_assoc}
use Rattle.std.proofs.lemmas.Result.{IfOk-at_ok}
use Rattle.std.proofs.lemmas.List.{length-append, take-append-drop, take_at, drop_at}
use Rattle.vsd_text.specs.Tokens.{first_piece, line_feeds, tokens_from, token_at, tokens_at, margin, before}
use Rattle.vsd_text.specs.Spelling.{Part, gap, lexeme, bytes_of, text_of, IsPart, AreParts, tokens_in}
use Rattle.vsd_text.specs.declared.tokens.Token.{Token}
use Rattle.vsd_text.specs.declared.tokens.TokenKind.{TokenKind}
use Rattle.vsd_text.specs.declared.tokens.LexError.{LexError}
use Rattle.vsd_text.specs.declared.pieces.Piece.{Piece}
use Rattle.vsd_text.proofs.Steps.{front_piece, before-before}
use Rattle.vsd_text.proofs.LineFeeds.{line_feeds-append}
use Rattle.vsd_text.proofs.Parts.{part_of, PieceIsPart, piece_is_part}
use Rattle.vsd_text.proofs.PieceOfPart.{kind_of, part_is_piece}

-- no piece begins at the front of the bytes: they are at their end, or refused
abbrev pub IsStuck : ℕ → List ℕ → Type 0
IsStuck line [] = Unit {0}
IsStuck line (b ∷ bs) = (refusal : LexError) × (first_piece line b bs ≡ Err refusal)

-- bytes that begin on this line, cut into parts as far as they go
pub record Cut (line : ℕ) (bs : List ℕ) : Type 0 where
  pub parts : List Part
  pub rest : List ℕ
  pub bytes_are : bs ≡ text_of parts ++ rest
  pub are_parts : AreParts parts rest
  pub stuck : IsStuck (line + line_feeds (text_of parts)) rest

bytes_of-part_of : (kind : Option TokenKind) (bs : List ℕ) → bytes_of (part_of kind bs) ≡ bs
bytes_of-part_of None bs = refl
bytes_of-part_of (Some kind) bs = refl

-- one more part in front
cut_cons : (line b : ℕ) (bs : List ℕ) (piece : Piece) → PieceIsPart b bs piece → Cut (line + line_feeds (b ∷ take piece.more bs)) (drop piece.more bs) → Cut line (b ∷ bs)
cut_cons line b bs piece is cut =
    let bytes = bytes_of-part_of piece.kind (b ∷ take piece.more bs) in
    let whole : b ∷ bs ≡ (b ∷ take piece.more bs ++ text_of cut.parts) ++ cut.rest =
    ap (λ xs. b ∷ xs) (sym (take-append-drop piece.more bs)) ∙ ap (λ xs. b ∷ (take piece.more bs ++ xs)) cut.bytes_are ∙ sym (append_assoc (b ∷ take piece.more bs) (text_of cut.parts) cut.rest) in
    let lines : line + line_feeds (b ∷ take piece.more bs) + line_feeds (text_of cut.parts) ≡ line + line_feeds (b ∷ take piece.more bs ++ text_of cut.parts) =
    omega (arith, line_feeds-append (b ∷ take piece.more bs) (text_of cut.parts)) in
    record {
      parts = part_of piece.kind (b ∷ take piece.more bs) ∷ cut.parts;
      rest = cut.rest;
      bytes_are = whole ∙ ap (λ xs. (xs ++ text_of cut.parts) ++ cut.rest) (sym bytes);
      are_parts = (subst (IsPart (part_of piece.kind (b ∷ take piece.more bs))) cut.bytes_are is.is_part, cut.are_parts);
      stuck = subst (λ xs. IsStuck (line + line_feeds (xs ++ text_of cut.parts)) cut.rest) (sym bytes) (subst (λ l. IsStuck l cut.rest) lines cut.stuck);
    }

-- no part, where no piece begins
cut_nil : (line : ℕ) (bs : List ℕ) → IsStuck line bs → Cut line bs
cut_nil line bs stuck = record {
  parts = [];
  rest = bs;
  bytes_are = refl;
  are_parts = tt;
  stuck = let here : line ≡ line + 0 = omega arith in subst (λ l. IsStuck l bs) here stuck;
}

cut_front : (line b : ℕ) (bs : List ℕ) (r : Result Piece LexError) → first_piece line b bs ≡ r → ((n l : ℕ) → Cut l (drop n bs)) → Cut line (b ∷ bs)
cut_front line b bs (Ok piece) is others =
    cut_cons line b bs piece (IfOk-at_ok (PieceIsPart b bs) is (piece_is_part line b bs)) (others piece.more (line + line_feeds (b ∷ take piece.more bs)))
cut_front line b bs (Err refusal) is others = cut_nil line (b ∷ bs) (refusal, is)

-- the bytes after n of them, cut into parts
pub cut_after : (n line : ℕ) (bs : List ℕ) → Cut line (drop n bs)
cut_after zero line [] = cut_nil line [] tt
cut_after (suc n) line [] = cut_nil line [] tt
cut_after (suc n) line (b ∷ bs) = cut_after n line bs
cut_after zero line (b ∷ bs) = cut_front line b bs (first_piece line b bs) refl (λ n l. cut_after n l bs)

pub before-nil : (r : Result (List Token) LexError) → before [] r ≡ r
unfolding before
before-nil (Ok tokens) = refl
before-nil (Err refusal) = refl

-- the tokens of parts, the first one apart
tokens_in-cons : (place line : ℕ) (part : Part) (byte : ℕ) (others : List ℕ) (parts : List Part) → bytes_of part ≡ byte ∷ others → tokens_in place line (part ∷ parts) ≡ tokens_at place line (record { kind = kind_of part; more = length others }) ++ tokens_in (place + 1 + length others) (line + line_feeds (byte ∷ others)) parts
unfolding tokens_at token_at
tokens_in-cons place line (gap bs) byte others parts are =
    let there : place + suc (length others) ≡ place + 1 + length others = omega arith in
    rw are (ap (λ p. tokens_in p (line + line_feeds (byte ∷ others)) parts) there)
tokens_in-cons place line (lexeme kind bs) byte others parts are =
    let there : place + suc (length others) ≡ place + 1 + length others = omega arith in
    rw are (ap (λ p. record { kind = kind; start = place + margin kind; end = p - margin kind; line = line } ∷ tokens_in p (line + line_feeds (byte ∷ others)) parts) there)

-- the tokens from a place on, where these parts begin and the rest follows
pub tokens_from-parts : (place line : ℕ) (parts : List Part) (rest : List ℕ) → AreParts parts rest → tokens_from place line 0 (text_of parts ++ rest) ≡ before (tokens_in place line parts) (tokens_from (place + length (text_of parts)) (line + line_feeds (text_of parts)) 0 rest)
tokens_from-parts place line [] rest are =
    let there : place + 0 ≡ place = omega arith in
    let same_line : line + 0 ≡ line = omega arith in
    rw (there, same_line) (sym (before-nil (tokens_from place line 0 rest)))
tokens_from-parts place line (part ∷ parts) rest are =
    let after = text_of parts ++ rest in
    let p = part_is_piece part after are.0 in
    let n = length p.others in
    let piece : Piece = record { kind = kind_of part; more = n } in
    let place' = place + 1 + n in
    let line' = line + line_feeds (p.byte ∷ p.others) in
    let bytes : (bytes_of part ++ text_of parts) ++ rest ≡ p.byte ∷ (p.others ++ after) =
    append_assoc (bytes_of part) (text_of parts) rest ∙ ap (λ xs. xs ++ after) p.bytes_are in
    let lines : line' + line_feeds (text_of parts) ≡ line + line_feeds (bytes_of part ++ text_of parts) =
    rw p.bytes_are (omega (arith, line_feeds-append (p.byte ∷ p.others) (text_of parts))) in
    let places : place' + length (text_of parts) ≡ place + length (bytes_of part ++ text_of parts) =
    rw p.bytes_are (omega (arith, length-append (p.byte ∷ p.others) (text_of parts))) in
    ap (λ xs. tokens_from place line 0 xs) bytes
    ∙ front_piece place line p.byte (p.others ++ after) piece (omega (arith, length-append p.others after)) (p.piece_is line)
    ∙ ap (λ xs. before (tokens_at place line piece) (tokens_from place' (line + line_feeds (p.byte ∷ xs)) 0 (drop n (p.others ++ after)))) (take_at p.others after n refl)
    ∙ ap (λ xs. before (tokens_at place line piece) (tokens_from place' line' 0 xs)) (drop_at p.others after n refl)
    ∙ ap (before (tokens_at place line piece)) (tokens_from-parts place' line' parts rest are.1)
    ∙ before-before (tokens_at place line piece) (tokens_in place' line' parts) (tokens_from (place' + length (text_of parts)) (line' + line_feeds (text_of parts)) 0 rest)
    ∙ ap (λ ts. before ts (tokens_from (place' + length (text_of parts)) (line' + line_feeds (text_of parts)) 0 rest)) (sym (tokens_in-cons place line part p.byte p.others parts p.bytes_are))
    ∙ ap (λ l. before (tokens_in place line (part ∷ parts)) (tokens_from (place' + length (text_of parts)) l 0 rest)) lines
    ∙ ap (λ q. before (tokens_in place line (part ∷ parts)) (tokens_from q (line + line_feeds (bytes_of part ++ text_of parts)) 0 rest)) places
