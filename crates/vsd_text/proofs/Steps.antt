-- One step through a text: from a piece's place to the place after it.
use Rattle.std.proofs.Common.{◌≡◌, ℕ, zero, suc, ◌+◌, ◌<◌, ◌≤◌, List, [], ◌∷◌, ◌++◌, length, get_or, take, drop, Option, Some, None, Result, Ok, Err, refl, sym, ap, ◌∙◌, arith, append_assoc, nat_lt, eqb}
use Rattle.std.specs.Prelude.{All, IfSome}
use Rattle.std.proofs.Math.Numerals.{add-one}
use Rattle.std.proofs.lemmas.Bool.{cond_both, cond-false, eqb-true, false≢true, and_parts, le-ltb}
use Rattle.std.specs.List.{starts_with}
use Rattle.std.proofs.lemmas.List.{drop_more, drop_all, drop-drop, append-nil, length-drop}
use Rattle.vsd_text.specs.Bytes.{is_line_feed}
use Rattle.vsd_text.specs.Tokens.{first_piece, line_feeds, mark_len, byte_order_mark, tokens_from, tokens_of, token_at, tokens_at, before, with_piece, refusal_of, text_limit, LiesWithin}
use Rattle.vsd_text.specs.declared.tokens.Token.{Token}
use Rattle.vsd_text.specs.declared.tokens.TokenKind.{TokenKind}
use Rattle.vsd_text.specs.declared.tokens.LexError.{LexError}
use Rattle.vsd_text.specs.declared.tokens.LexError.TheVariants.{BadByte, OpenComment, OpenQuote, TooLong, Memory}
use Rattle.vsd_text.specs.declared.pieces.Piece.{Piece}
use Rattle.std.proofs.lemmas.List.Elements.{All-nil, All-cons}
use Rattle.vsd_text.proofs.LineFeeds.{line_feeds-cons, piece_has_margins}

-- passing over n bytes is to go on after them, on the line that they lead to
pub tokens_from-passing : (place line n : ℕ) (bs : List ℕ) → n ≤ length bs → tokens_from place line n bs ≡ tokens_from (place + n) (line + line_feeds (take n bs)) 0 (drop n bs)
unfolding tokens_from
tokens_from-passing place line zero bs le =
    let at_place : place + 0 ≡ place = omega arith in
    let at_line : line + 0 ≡ line = omega arith in
    rw (at_place, at_line) refl
tokens_from-passing place line (suc n) [] le = absurd (omega arith)
tokens_from-passing place line (suc n) (b ∷ bs) le =
    let there : place + 1 + n ≡ place + suc n = omega arith in
    let lines : line + line_feeds (b ∷ []) + line_feeds (take n bs) ≡ line + line_feeds (b ∷ take n bs) = omega (arith, line_feeds-cons b (take n bs)) in
    tokens_from-passing (place + 1) (line + line_feeds (b ∷ [])) n bs (omega arith)
    ∙ ap (λ p. tokens_from p (line + line_feeds (b ∷ []) + line_feeds (take n bs)) 0 (drop n bs)) there
    ∙ ap (λ l. tokens_from (place + suc n) l 0 (drop n bs)) lines

pub before-before : (ts us : List Token) (r : Result (List Token) LexError) → before ts (before us r) ≡ before (ts ++ us) r
unfolding before
before-before ts us (Ok vs) = ap Ok (sym (append_assoc ts us vs))
before-before ts us (Err e) = refl

-- the piece at the front of some bytes, and what follows it
pub front_piece : (place line b : ℕ) (bs : List ℕ) (piece : Piece) → piece.more ≤ length bs → first_piece line b bs ≡ Ok piece → tokens_from place line 0 (b ∷ bs) ≡ before (tokens_at place line piece) (tokens_from (place + 1 + piece.more) (line + line_feeds (b ∷ take piece.more bs)) 0 (drop piece.more bs))
unfolding tokens_from with_piece
front_piece place line b bs piece le is =
    let lines : line + line_feeds (b ∷ []) + line_feeds (take piece.more bs) ≡ line + line_feeds (b ∷ take piece.more bs) = omega (arith, line_feeds-cons b (take piece.more bs)) in
    ap (λ r. with_piece place line r (λ n. tokens_from (place + 1) (line + line_feeds (b ∷ [])) n bs)) is
    ∙ ap (before (tokens_at place line piece)) (tokens_from-passing (place + 1) (line + line_feeds (b ∷ [])) piece.more bs le)
    ∙ ap (λ l. before (tokens_at place line piece) (tokens_from (place + 1 + piece.more) l 0 (drop piece.more bs))) lines

-- the same at a place of a text
pub tokens_from-piece : (text : List ℕ) (at line : ℕ) (piece : Piece) → at + piece.more < length text → first_piece line (get_or text at 0) (drop (at + 1) text) ≡ Ok piece → tokens_from at line 0 (drop at text) ≡ before (tokens_at at line piece) (tokens_from (at + 1 + piece.more) (line + line_feeds (take (piece.more + 1) (drop at text))) 0 (drop (at + 1 + piece.more) text))
tokens_from-piece text at line piece lt is =
    let byte = get_or text at 0 in
    let split : drop at text ≡ byte ∷ drop (at + 1) text = drop_more text at 0 (omega arith) in
    let first : take (piece.more + 1) (drop at text) ≡ byte ∷ take piece.more (drop (at + 1) text) = rw (split, add-one) refl in
    let left : piece.more ≤ length (drop (at + 1) text) = omega (arith, length-drop (at + 1) text) in
    let rest = drop-drop piece.more (at + 1) text in
    ap (λ bs. tokens_from at line 0 bs) split
    ∙ front_piece at line byte (drop (at + 1) text) piece left is
    ∙ ap (λ bs. before (tokens_at at line piece) (tokens_from (at + 1 + piece.more) (line + line_feeds (byte ∷ take piece.more (drop (at + 1) text))) 0 bs)) rest
    ∙ ap (λ bs. before (tokens_at at line piece) (tokens_from (at + 1 + piece.more) (line + line_feeds bs) 0 (drop (at + 1 + piece.more) text))) (sym first)

-- where no piece stands, the tokens end with its refusal
pub tokens_from-refused : (text : List ℕ) (at line : ℕ) (e : LexError) → at < length text → first_piece line (get_or text at 0) (drop (at + 1) text) ≡ Err e → tokens_from at line 0 (drop at text) ≡ Err e
unfolding tokens_from with_piece
tokens_from-refused text at line e lt is =
    ap (λ bs. tokens_from at line 0 bs) (drop_more text at 0 lt)
    ∙ ap (λ r. with_piece at line r (λ n. tokens_from (at + 1) (line + line_feeds (get_or text at 0 ∷ [])) n (drop (at + 1) text))) is

-- an error that a reading gives is its refusal, or want of memory
pub gives_refusal : (reading : Result (List Token) LexError) (e : LexError) → reading ≡ Err e → IfSome (refusal_of e) (λ r. reading ≡ Err r)
gives_refusal reading (BadByte line) is = is
gives_refusal reading (OpenComment line) is = is
gives_refusal reading (OpenQuote line) is = is
gives_refusal reading TooLong is = is
gives_refusal reading Memory is = tt

-- no line feed stands in the byte order mark
pub mark_is : (text : List ℕ) → (mark_len text ≤ length text) × (line_feeds (take (mark_len text) text) ≡ 0)
unfolding mark_len is_line_feed
mark_is [] = (omega arith, refl)
mark_is (a ∷ []) =
    cond_both (starts_with eqb (a ∷ []) byte_order_mark) 3 0 (λ n. (n ≤ 1) × (line_feeds (take n (a ∷ [])) ≡ 0))
    (λ is. absurd (false≢true (and_parts _ _ is).1)) (λ _. (omega arith, refl))
mark_is (a ∷ b ∷ []) =
    cond_both (starts_with eqb (a ∷ b ∷ []) byte_order_mark) 3 0 (λ n. (n ≤ 2) × (line_feeds (take n (a ∷ b ∷ [])) ≡ 0))
    (λ is. absurd (false≢true (and_parts _ _ (and_parts _ _ is).1).1)) (λ _. (omega arith, refl))
mark_is (a ∷ b ∷ c ∷ rest) =
    cond_both (starts_with eqb (a ∷ b ∷ c ∷ rest) byte_order_mark) 3 0 (λ n. (n ≤ length (a ∷ b ∷ c ∷ rest)) × (line_feeds (take n (a ∷ b ∷ c ∷ rest)) ≡ 0))
    (λ is.
    let first = and_parts _ _ is in
    let second = and_parts _ _ first.1 in
    let third = and_parts _ _ second.1 in
    let first_is : a ≡ 239 = sym (eqb-true 239 a first.0) in
    let second_is : b ≡ 187 = sym (eqb-true 187 b second.0) in
    let third_is : c ≡ 191 = sym (eqb-true 191 c third.0) in
    (omega arith, rw (first_is, second_is, third_is) refl))
    (λ _. (omega arith, refl))

-- how a text begins, if it isn't too long
pub tokens_of-short : (text : List ℕ) → length text ≤ text_limit → tokens_of text ≡ before [] (tokens_from (mark_len text) 1 0 (drop (mark_len text) text))
unfolding tokens_of before
tokens_of-short text short =
    let n = mark_len text in
    let mark = mark_is text in
    let same_line : 1 + line_feeds (take n text) ≡ 1 = omega (arith, mark.1) in
    let there : 0 + n ≡ n = omega arith in
    cond-false (nat_lt text_limit (length text)) _ _ (le-ltb _ _ short)
    ∙ tokens_from-passing 0 1 n text mark.0
    ∙ ap (λ l. tokens_from (0 + n) l 0 (drop n text)) same_line
    ∙ ap (λ p. tokens_from p 1 0 (drop n text)) there
    ∙ same (tokens_from n 1 0 (drop n text))
  where
    same : (r : Result (List Token) LexError) → r ≡ before [] r
    same (Ok ts) = refl
    same (Err e) = refl

module _ (text : List ℕ) (tokens : List Token) (at line : ℕ) (reached : tokens_of text ≡ before tokens (tokens_from at line 0 (drop at text))) where
  -- at the end of the text
  pub tokens_of-at_end : length text ≤ at → tokens_of text ≡ Ok tokens
  unfolding before tokens_from
  tokens_of-at_end over = reached ∙ ap (λ bs. before tokens (tokens_from at line 0 bs)) (drop_all at text over) ∙ ap Ok (append-nil tokens)

  -- at a refusal
  pub tokens_of-refused : (e : LexError) → at < length text → first_piece line (get_or text at 0) (drop (at + 1) text) ≡ Err e → tokens_of text ≡ Err e
  unfolding before
  tokens_of-refused e lt is = reached ∙ ap (before tokens) (tokens_from-refused text at line e lt is)

  -- after a piece
  pub tokens_of-after : (piece : Piece) → at + piece.more < length text → first_piece line (get_or text at 0) (drop (at + 1) text) ≡ Ok piece → tokens_of text ≡ before (tokens ++ tokens_at at line piece) (tokens_from (at + (1 + piece.more)) (line + line_feeds (take (piece.more + 1) (drop at text))) 0 (drop (at + (1 + piece.more)) text))
  tokens_of-after piece lt is =
      let there : at + 1 + piece.more ≡ at + (1 + piece.more) = omega arith in
      reached ∙ ap (before tokens) (tokens_from-piece text at line piece lt is) ∙ before-before tokens _ _
      ∙ ap (λ n. before (tokens ++ tokens_at at line piece) (tokens_from n (line + line_feeds (take (piece.more + 1) (drop at text))) 0 (drop n text))) there

-- a piece is one token at most
pub tokens_at-few : (at line : ℕ) (piece : Piece) → length (tokens_at at line piece) ≤ 1
unfolding tokens_at
tokens_at-few at line piece = by_kind piece.kind refl
  where
    by_kind : (kind : Option TokenKind) → piece.kind ≡ kind → length (tokens_at at line piece) ≤ 1
    by_kind None none = rw none (omega arith)
    by_kind (Some kind) some = rw some (omega arith)

-- the token of a piece lies in the text
pub tokens_at-inside : (text : List ℕ) (at line : ℕ) (piece : Piece) → at + piece.more < length text → first_piece line (get_or text at 0) (drop (at + 1) text) ≡ Ok piece → All (LiesWithin text) (tokens_at at line piece)
unfolding tokens_at token_at
tokens_at-inside text at line piece lt is = by_kind piece.kind refl
  where
    by_kind : (kind : Option TokenKind) → piece.kind ≡ kind → All (LiesWithin text) (tokens_at at line piece)
    by_kind None none = rw none (All-nil (LiesWithin text))
    by_kind (Some kind) some =
        let margins = piece_has_margins text at line piece kind lt is some in
        rw some (All-cons (LiesWithin text) _ [] (record { ordered = omega arith; inside = omega arith }) (All-nil (LiesWithin text)))
