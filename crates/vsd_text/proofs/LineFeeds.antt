-- Where line feeds stand in the pieces of a text.
use Rattle.std.proofs.Common.{◌≡◌, ◌≢◌, ℕ, zero, suc, ◌+◌, ◌<◌, ◌≤◌, List, [], ◌∷◌, ◌++◌, length, get_or, take, drop, cond, eqb, Bool, true, false, Some, Result, Ok, refl, ap, subst, arith}
use Rattle.std.specs.Prelude.{IfOk, IfSome}
use Rattle.std.specs.List.{prefix_len, AllPass}
use Rattle.std.proofs.Math.Numerals.{add-one, one-add}
use Rattle.std.proofs.lemmas.Bool.{ne_eqb, cond_both, eqb-true}
use Rattle.std.proofs.lemmas.Result.{IfOk-at_ok}
use Rattle.std.proofs.lemmas.List.{drop_more, length-take}
use Rattle.std.proofs.lemmas.List.Elements.{All-head, All-tail}
use Rattle.std.proofs.lemmas.List.Sums.{sum_by-append, count_by-le-length}
use Rattle.vsd_text.specs.Bytes.{is_separator, is_line_feed, is_digit, is_letter, is_run_byte, is_printable, is_quoted_byte}
use Rattle.vsd_text.specs.Tokens.{first_piece, run_kind, twin_or_symbol, closed_by, closed_comment, slash_piece, text_len, comment_len, line_feeds, margin}
use Rattle.vsd_text.specs.declared.tokens.TokenKind.{TokenKind}
use Rattle.vsd_text.specs.declared.tokens.TokenKind.TheVariants.{Word, Quoted, Number, Text, Colons, Percents}
use Rattle.vsd_text.specs.declared.tokens.LexError.{LexError}
use Rattle.vsd_text.specs.declared.pieces.Piece.{Piece}

pub line_feeds-append : (xs ys : List ℕ) → line_feeds (xs ++ ys) ≡ line_feeds xs + line_feeds ys
line_feeds-append xs ys = sum_by-append (λ x. cond (is_line_feed x) 1 0) xs ys

pub line_feeds-cons : (b : ℕ) (bs : List ℕ) → line_feeds (b ∷ bs) ≡ line_feeds (b ∷ []) + line_feeds bs
line_feeds-cons b bs = line_feeds-append (b ∷ []) bs

-- a line feed takes a byte
pub line_feeds-take : (n : ℕ) (bs : List ℕ) → line_feeds (take n bs) ≤ n
line_feeds-take n bs = omega (arith, count_by-le-length is_line_feed (take n bs), length-take n bs)

-- one byte more of a list
pub take_next : (n : ℕ) (bs : List ℕ) (c : ℕ) (more : List ℕ) → drop n bs ≡ c ∷ more → take (suc n) bs ≡ take n bs ++ c ∷ []
take_next zero [] c more is = cc
take_next zero (b ∷ bs) c more is = let same : b ≡ c = cc in ap (λ x. x ∷ []) same
take_next (suc n) [] c more is = cc
take_next (suc n) (b ∷ bs) c more is = ap (λ xs. b ∷ xs) (take_next n bs c more is)

-- what passes a test that fails at the line feed is none
not_line_feed : (test : ℕ → Bool) → test 10 ≡ false → (b : ℕ) → test b ≡ true → is_line_feed b ≡ false
unfolding is_line_feed
not_line_feed test fails b passes = ne_eqb b 10 (λ same. let here : test 10 ≡ true = subst (λ x. test x ≡ true) same passes in cc)

one_byte : (b : ℕ) → is_line_feed b ≡ false → line_feeds (b ∷ []) ≡ 0
one_byte b none = rw none refl

passing_has_none : (test : ℕ → Bool) → test 10 ≡ false → (bs : List ℕ) → line_feeds (take (prefix_len test bs) bs) ≡ 0
passing_has_none test fails [] = refl
passing_has_none test fails (b ∷ bs) =
    cond_both (test b) (1 + prefix_len test bs) 0 (λ n. line_feeds (take n (b ∷ bs)) ≡ 0)
    (λ passes. rw one-add (omega (arith, line_feeds-cons b (take (prefix_len test bs) bs), one_byte b (not_line_feed test fails b passes), passing_has_none test fails bs)))
    (λ _. refl)

run_byte_fails : is_run_byte 10 ≡ false
unfolding is_run_byte is_letter is_digit
run_byte_fails = refl

printable_fails : is_printable 10 ≡ false
unfolding is_printable
printable_fails = refl

quoted_byte_fails : is_quoted_byte 10 ≡ false
unfolding is_quoted_byte
quoted_byte_fails = refl

-- no line feed stands between single quotes
pub quoted_has_none : (bs : List ℕ) → AllPass is_quoted_byte bs → line_feeds bs ≡ 0
quoted_has_none [] all = refl
quoted_has_none (b ∷ bs) all =
    let passes : is_quoted_byte b ≡ true = All-head (λ x. is_quoted_byte x ≡ true) b bs all in
    let others : AllPass is_quoted_byte bs = All-tail (λ x. is_quoted_byte x ≡ true) b bs all in
    omega (arith, line_feeds-cons b bs, one_byte b (not_line_feed is_quoted_byte quoted_byte_fails b passes), quoted_has_none bs others)

quote_is_none : is_line_feed 39 ≡ false
unfolding is_line_feed
quote_is_none = refl

text_is_none : is_line_feed 34 ≡ false
unfolding is_line_feed
text_is_none = refl

sign_is_none : (b sign : ℕ) → eqb sign 10 ≡ false → eqb b sign ≡ true → is_line_feed b ≡ false
unfolding is_line_feed
sign_is_none b sign differs same = let is : b ≡ sign = eqb-true b sign same in rw (is, differs) refl

-- what holds of each token of this kind, with n bytes after its first one
pub record HoldsNone (b : ℕ) (bs : List ℕ) (kind : TokenKind) (n : ℕ) : Type 0 where
  pub no_line_feed : kind ≢ Text → line_feeds (b ∷ take n bs) ≡ 0
  pub has_margins : margin kind + margin kind ≤ n + 1

abbrev TokenHoldsNone : ℕ → List ℕ → Result Piece LexError → Type 0
TokenHoldsNone b bs r = IfOk r (λ piece. IfSome piece.kind (λ kind. HoldsNone b bs kind piece.more))

run_holds_none : (b : ℕ) (bs : List ℕ) → is_run_byte b ≡ true → HoldsNone b bs (run_kind b) (prefix_len is_run_byte bs)
run_holds_none b bs runs =
    cond_both (is_digit b) Number Word (λ kind. HoldsNone b bs kind (prefix_len is_run_byte bs))
    (λ _. record { no_line_feed = λ _. none; has_margins = omega arith })
    (λ _. record { no_line_feed = λ _. none; has_margins = omega arith })
  where
    none : line_feeds (b ∷ take (prefix_len is_run_byte bs) bs) ≡ 0
    none = omega (arith, line_feeds-cons b (take (prefix_len is_run_byte bs) bs), one_byte b (not_line_feed is_run_byte run_byte_fails b runs), passing_has_none is_run_byte run_byte_fails bs)

twin_holds_none : (twin : TokenKind) (b : ℕ) (bs : List ℕ) → margin twin ≡ 0 → is_line_feed b ≡ false → TokenHoldsNone b bs (twin_or_symbol twin b bs)
unfolding twin_or_symbol
twin_holds_none twin b [] bare none = record { no_line_feed = λ _. one_byte b none; has_margins = omega arith }
twin_holds_none twin b (c ∷ bs) bare none =
    cond_both (eqb c b) _ _ (TokenHoldsNone b (c ∷ bs))
    (λ same. let is : c ≡ b = eqb-true c b same in record { no_line_feed = λ _. rw (is, none) refl; has_margins = omega arith })
    (λ _. record { no_line_feed = λ _. one_byte b none; has_margins = omega arith })

closed_holds_none : (quote : ℕ) (kind : TokenKind) (line b n : ℕ) (bs rest : List ℕ) → is_line_feed quote ≡ false → margin kind ≡ 1 → (kind ≢ Text → line_feeds (b ∷ take n bs) ≡ 0) → drop n bs ≡ rest → TokenHoldsNone b bs (closed_by quote kind line n rest)
unfolding closed_by
closed_holds_none quote kind line b n bs [] sign wide none is = tt
closed_holds_none quote kind line b n bs (c ∷ more) sign wide none is =
    cond_both (eqb c quote) _ _ (TokenHoldsNone b bs)
    (λ same. let same_byte : c ≡ quote = eqb-true c quote same in record {
      no_line_feed = λ other.
          let whole : take (n + 1) bs ≡ take n bs ++ c ∷ [] = rw add-one (take_next n bs c more is) in
          let last : line_feeds (c ∷ []) ≡ 0 = rw same_byte (one_byte quote sign) in
          rw whole (omega (arith, line_feeds-append (b ∷ take n bs) (c ∷ []), last, none other));
      has_margins = omega arith;
    })
    (λ _. cond_both (eqb c 10) _ _ (TokenHoldsNone b bs) (λ _. tt) (λ _. tt))

slash_holds_none : (line b : ℕ) (bs : List ℕ) → is_line_feed b ≡ false → TokenHoldsNone b bs (slash_piece line bs)
unfolding slash_piece closed_comment
slash_holds_none line b [] none = record { no_line_feed = λ _. one_byte b none; has_margins = omega arith }
slash_holds_none line b (c ∷ bs) none =
    cond_both (eqb c 47) _ _ (TokenHoldsNone b (c ∷ bs)) (λ _. tt)
    (λ _. cond_both (eqb c 42) _ _ (TokenHoldsNone b (c ∷ bs)) (λ _. comment (drop (comment_len bs) bs))
    (λ _. record { no_line_feed = λ _. one_byte b none; has_margins = omega arith }))
  where
    comment : (rest : List ℕ) → TokenHoldsNone b (c ∷ bs) (closed_comment line (comment_len bs) rest)
    comment [] = tt
    comment (d ∷ rest) = tt

token_holds_none : (line b : ℕ) (bs : List ℕ) → TokenHoldsNone b bs (first_piece line b bs)
unfolding first_piece
token_holds_none line b bs =
    cond_both (is_run_byte b) _ _ (TokenHoldsNone b bs) (λ runs. run_holds_none b bs runs)
    (λ _. cond_both (is_separator b) _ _ (TokenHoldsNone b bs) (λ _. tt)
    (λ _. cond_both (eqb b 39) _ _ (TokenHoldsNone b bs)
    (λ same. closed_holds_none 39 Quoted line b (prefix_len is_quoted_byte bs) bs _ quote_is_none refl
    (λ _. omega (arith, line_feeds-cons b (take (prefix_len is_quoted_byte bs) bs), one_byte b (sign_is_none b 39 refl same), passing_has_none is_quoted_byte quoted_byte_fails bs)) refl)
    (λ _. cond_both (eqb b 34) _ _ (TokenHoldsNone b bs)
    (λ same. closed_holds_none 34 Text line b (text_len false bs) bs _ text_is_none refl (λ other. absurd (other refl)) refl)
    (λ _. cond_both (eqb b 47) _ _ (TokenHoldsNone b bs) (λ same. slash_holds_none line b bs (sign_is_none b 47 refl same))
    (λ _. cond_both (eqb b 58) _ _ (TokenHoldsNone b bs) (λ same. twin_holds_none Colons b bs refl (sign_is_none b 58 refl same))
    (λ _. cond_both (eqb b 37) _ _ (TokenHoldsNone b bs) (λ same. twin_holds_none Percents b bs refl (sign_is_none b 37 refl same))
    (λ _. cond_both (is_printable b) _ _ (TokenHoldsNone b bs)
    (λ printable. record { no_line_feed = λ _. one_byte b (not_line_feed is_printable printable_fails b printable); has_margins = omega arith })
    (λ _. tt))))))))

-- the same of the piece at a place of a text
module _ (text : List ℕ) (at line : ℕ) (piece : Piece) (kind : TokenKind) (lt : at + piece.more < length text) (is : first_piece line (get_or text at 0) (drop (at + 1) text) ≡ Ok piece) (some : piece.kind ≡ Some kind) where
  holds_none : HoldsNone (get_or text at 0) (drop (at + 1) text) kind piece.more
  holds_none =
      let found = IfOk-at_ok (λ p. IfSome p.kind (λ k. HoldsNone (get_or text at 0) (drop (at + 1) text) k p.more)) is (token_holds_none line (get_or text at 0) (drop (at + 1) text)) in
      rw some at found

  pub piece_has_no_line_feed : kind ≢ Text → line_feeds (take (piece.more + 1) (drop at text)) ≡ 0
  piece_has_no_line_feed other =
      let split : drop at text ≡ get_or text at 0 ∷ drop (at + 1) text = drop_more text at 0 (omega arith) in
      rw (split, add-one) (holds_none.no_line_feed other)

  pub piece_has_margins : margin kind + margin kind ≤ piece.more + 1
  piece_has_margins = holds_none.has_margins
