-- Where the lexer has come to in a text, and with which tokens.
use Rattle.std.proofs.Common.{◌≡◌, ℕ, ◌+◌, ◌<◌, ◌≤◌, List, [], ◌∷◌, ◌++◌, length, get_or, take, drop, None, Ok, sym, ap, ◌∙◌, subst, arith}
use Rattle.std.specs.Prelude.{All}
use Rattle.std.proofs.lemmas.List.{append-nil, drop_more, length-append}
use Rattle.std.proofs.lemmas.List.Elements.{All-append}
use Rattle.vsd_text.specs.Tokens.{first_piece, gap_piece, line_feeds, tokens_from, tokens_of, tokens_at, before, text_limit, LiesWithin, IsOneLineToken}
use Rattle.vsd_text.specs.declared.tokens.Token.{Token}
use Rattle.vsd_text.specs.declared.pieces.Piece.{Piece}
use Rattle.vsd_text.proofs.LineFeeds.{line_feeds-take, piece_has_no_line_feed}
use Rattle.vsd_text.proofs.Steps.{tokens_of-after, tokens_at-few, tokens_at-inside}

-- the pieces before this place are passed, these are their tokens, and this is its line
pub record Reached (text : List ℕ) (tokens : List Token) (at line : ℕ) : Type 0 where
  pub in_range : at ≤ length text
  pub short : length text ≤ text_limit
  pub few_lines : line ≤ at + 1
  pub same : tokens_of text ≡ before tokens (tokens_from at line 0 (drop at text))
  pub inside : All (LiesWithin text) tokens
  pub few : length tokens ≤ at

module _ (text : List ℕ) (tokens : List Token) (at line : ℕ) (reached : Reached text tokens at line) (piece : Piece) (within : at + piece.more < length text) (found : first_piece line (get_or text at 0) (drop (at + 1) text) ≡ Ok piece) where
  -- the piece at this place is passed
  pub after_piece : (others : List Token) (feeds : ℕ) → others ≡ tokens ++ tokens_at at line piece → feeds ≡ line_feeds (take (piece.more + 1) (drop at text)) → Reached text others (at + (1 + piece.more)) (line + feeds)
  after_piece others feeds pushed counted = record {
    in_range = omega arith;
    short = reached.short;
    few_lines = omega (arith, reached.few_lines, counted, line_feeds-take (piece.more + 1) (drop at text));
    same = rw (pushed, counted) (tokens_of-after text tokens at line reached.same piece within found);
    inside = subst (All (LiesWithin text)) (sym pushed) (All-append (LiesWithin text) tokens (tokens_at at line piece) reached.inside (tokens_at-inside text at line piece within found));
    few = rw pushed (omega (arith, reached.few, length-append tokens (tokens_at at line piece), tokens_at-few at line piece));
  }

  -- the token at this place, which holds no line feed, is passed
  pub after_token : (others : List Token) → IsOneLineToken piece → others ≡ tokens ++ tokens_at at line piece → Reached text others (at + (1 + piece.more)) line
  after_token others token pushed =
      let none = piece_has_no_line_feed text at line piece token.0 within found token.1.0 token.1.1 in
      let same_line : line + 0 ≡ line = omega arith in
      subst (Reached text others (at + (1 + piece.more))) same_line (after_piece others 0 pushed (sym none))

-- the separator at this place is passed
pub after_gap : (text : List ℕ) (tokens : List Token) (at line : ℕ) → Reached text tokens at line → at < length text → first_piece line (get_or text at 0) (drop (at + 1) text) ≡ gap_piece 0 → (feeds : ℕ) → line_feeds (get_or text at 0 ∷ []) ≡ feeds → Reached text tokens (at + 1) (line + feeds)
unfolding tokens_at
after_gap text tokens at line reached lt found feeds counted =
    let byte : take 1 (drop at text) ≡ get_or text at 0 ∷ [] = ap (take 1) (drop_more text at 0 lt) in
    let within : at + 0 < length text = omega arith in
    after_piece text tokens at line reached (record { kind = None; more = 0 }) within found tokens feeds (sym (append-nil tokens)) (sym (ap line_feeds byte ∙ counted))
