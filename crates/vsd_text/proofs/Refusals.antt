-- Where no piece stands, and with which refusal.
use Rattle.std.proofs.Common.{◌≡◌, ◌≢◌, ℕ, List, [], ◌∷◌, ◌++◌, length, take, drop, true, false, eqb, Result, Err, refl, sym, ap, ◌∙◌, subst, arith, ◌⊎◌, inl, inr}
use Rattle.std.specs.Prelude.{IfErr}
use Rattle.std.specs.List.{prefix_len, AllPass}
use Rattle.std.proofs.lemmas.Bool.{cond_both, eqb-true, eqb-false, ne_eqb, false_from_ne_true, true≢false}
use Rattle.std.proofs.lemmas.List.{length-append, take-append-drop, drop_at, drop_all}
use Rattle.vsd_text.specs.Bytes.{is_separator, is_run_byte, is_printable, is_quoted_byte}
use Rattle.vsd_text.specs.Tokens.{first_piece, twin_or_symbol, closed_by, slash_piece, closed_comment, text_len, comment_len, begins_with}
use Rattle.vsd_text.specs.Spelling.{IsContent, HasNoClose, EndsLine, IsRefusal}
use Rattle.vsd_text.specs.declared.tokens.TokenKind.{TokenKind}
use Rattle.vsd_text.specs.declared.tokens.TokenKind.TheVariants.{Quoted, Text, Colons, Percents}
use Rattle.vsd_text.specs.declared.tokens.LexError.{LexError}
use Rattle.vsd_text.specs.declared.tokens.LexError.TheVariants.{BadByte, OpenComment, OpenQuote, TooLong, Memory}
use Rattle.vsd_text.specs.declared.pieces.Piece.{Piece}
use Rattle.vsd_text.proofs.Classes.{run_byte_is_printable}
use Rattle.vsd_text.proofs.Prefixes.{Stops, prefix_passes, prefix_stops, prefix_len-of_prefix}
use Rattle.vsd_text.proofs.Quotes.{EndsText, TextSplit, ended, cut_off, text_split, text_len-append, text_len-cut_off, text_len-of_content}
use Rattle.vsd_text.proofs.Comments.{CommentSplit, closed, open_ended, comment_split, comment_len-of_body, comment_len-of_open}
use Rattle.vsd_text.proofs.PieceOfPart.{at_single_quote, at_double_quote, at_slash}

abbrev pub ErrIsRefusal : ℕ → List ℕ → Result Piece LexError → Type 0
ErrIsRefusal line bs r = IfErr r (IsRefusal line bs)

twin_is_not_refused : (line : ℕ) (xs : List ℕ) (twin : TokenKind) (b : ℕ) (bs : List ℕ) → ErrIsRefusal line xs (twin_or_symbol twin b bs)
unfolding twin_or_symbol
twin_is_not_refused line xs twin b bs = cond_both (begins_with b bs) _ _ (ErrIsRefusal line xs) (λ _. tt) (λ _. tt)

-- after a single quote, where the content is followed by these bytes
quoted_refusal : (line : ℕ) (bs rest : List ℕ) → drop (prefix_len is_quoted_byte bs) bs ≡ rest → ErrIsRefusal line (39 ∷ bs) (closed_by 39 Quoted line (prefix_len is_quoted_byte bs) rest)
unfolding closed_by
quoted_refusal line bs [] is = (
  refl,
  inl (record {
    content = take (prefix_len is_quoted_byte bs) bs;
    rest = [];
    bytes_are = ap (λ xs. 39 ∷ xs) (sym (take-append-drop (prefix_len is_quoted_byte bs) bs) ∙ ap (λ xs. take (prefix_len is_quoted_byte bs) bs ++ xs) is);
    is_content = prefix_passes is_quoted_byte bs;
    ends = tt;
  }),
)
quoted_refusal line bs (c ∷ more) is =
    let n = prefix_len is_quoted_byte bs in
    let bytes : 39 ∷ bs ≡ 39 ∷ take n bs ++ c ∷ more = ap (λ xs. 39 ∷ xs) (sym (take-append-drop n bs) ∙ ap (λ xs. take n bs ++ xs) is) in
    cond_both (eqb c 39) _ _ (ErrIsRefusal line (39 ∷ bs)) (λ _. tt)
    (λ no_quote. cond_both (eqb c 10) _ _ (ErrIsRefusal line (39 ∷ bs))
    (λ feed. (refl, inl (record { content = take n bs; rest = c ∷ more; bytes_are = bytes; is_content = prefix_passes is_quoted_byte bs; ends = eqb-true c 10 feed })))
    (λ no_feed. (
      refl,
      inr (record {
        content = take n bs;
        byte = c;
        others = more;
        bytes_are = bytes;
        is_content = prefix_passes is_quoted_byte bs;
        no_content = subst (Stops is_quoted_byte) is (prefix_stops is_quoted_byte bs);
        no_quote = eqb-false c 39 no_quote;
        no_line_feed = eqb-false c 10 no_feed;
      }),
    )))

-- after a double quote and a content that ends with these bytes
ended_refusal : (line n : ℕ) (bs content rest : List ℕ) → bs ≡ content ++ rest → IsContent content → EndsText rest → ErrIsRefusal line (34 ∷ bs) (closed_by 34 Text line n rest)
unfolding closed_by
ended_refusal line n bs content [] is content_is ends = (refl, inr (record { content = content; rest = []; bytes_are = ap (λ xs. 34 ∷ xs) is; is_content = content_is; ends = inl tt }))
ended_refusal line n bs content (c ∷ more) is content_is (inl quote) = rw quote tt
ended_refusal line n bs content (c ∷ more) is content_is (inr feed) =
    rw feed (refl, inr (record { content = content; rest = c ∷ more; bytes_are = ap (λ xs. 34 ∷ xs) is; is_content = content_is; ends = inl feed }))

text_refusal : (line : ℕ) (bs : List ℕ) → TextSplit bs → ErrIsRefusal line (34 ∷ bs) (closed_by 34 Text line (text_len false bs) (drop (text_len false bs) bs))
unfolding closed_by
text_refusal line bs (ended content rest is content_is ends) =
    let len : text_len false bs ≡ length content = ap (text_len false) is ∙ text_len-of_content content rest content_is ends in
    let left : drop (text_len false bs) bs ≡ rest = ap (drop (text_len false bs)) is ∙ drop_at content rest (text_len false bs) (sym len) in
    subst (λ xs. ErrIsRefusal line (34 ∷ bs) (closed_by 34 Text line (text_len false bs) xs)) (sym left) (ended_refusal line (text_len false bs) bs content rest is content_is ends)
text_refusal line bs (cut_off content is content_is len) =
    let past : drop (text_len false bs) bs ≡ [] = drop_all (text_len false bs) bs (omega (arith, len)) in
    rw past (refl, inr (record { content = content; rest = 92 ∷ []; bytes_are = ap (λ xs. 34 ∷ xs) is; is_content = content_is; ends = inr refl }))

comment_refusal : (line : ℕ) (bs : List ℕ) → CommentSplit bs → ErrIsRefusal line (47 ∷ 42 ∷ bs) (closed_comment line (comment_len bs) (drop (comment_len bs) bs))
unfolding closed_comment
comment_refusal line bs (closed body more are none) =
    let len : comment_len bs ≡ length body = ap comment_len are ∙ comment_len-of_body body more none in
    let left : drop (comment_len bs) bs ≡ 42 ∷ 47 ∷ more = ap (drop (comment_len bs)) are ∙ drop_at body (42 ∷ 47 ∷ more) (comment_len bs) (sym len) in
    rw left tt
comment_refusal line bs (open_ended none) =
    let past : drop (comment_len bs) bs ≡ [] = drop_all (comment_len bs) bs (omega (arith, comment_len-of_open bs none)) in
    rw past (refl, record { body = bs; bytes_are = refl; has_no_close = none })

slash_refusal : (line : ℕ) (bs : List ℕ) → ErrIsRefusal line (47 ∷ bs) (slash_piece line bs)
unfolding slash_piece
slash_refusal line [] = tt
slash_refusal line (c ∷ bs) =
    cond_both (eqb c 47) _ _ (ErrIsRefusal line (47 ∷ c ∷ bs)) (λ _. tt)
    (λ _. cond_both (eqb c 42) _ _ (ErrIsRefusal line (47 ∷ c ∷ bs))
    (λ same. subst (λ x. ErrIsRefusal line (47 ∷ x ∷ bs) (closed_comment line (comment_len bs) (drop (comment_len bs) bs))) (sym (eqb-true c 42 same)) (comment_refusal line bs (comment_split bs)))
    (λ _. tt))

pub refused_is_refusal : (line b : ℕ) (bs : List ℕ) → ErrIsRefusal line (b ∷ bs) (first_piece line b bs)
unfolding first_piece
refused_is_refusal line b bs =
    cond_both (is_run_byte b) _ _ (ErrIsRefusal line (b ∷ bs)) (λ _. tt)
    (λ _. cond_both (is_separator b) _ _ (ErrIsRefusal line (b ∷ bs)) (λ _. tt)
    (λ no_separator. cond_both (eqb b 39) _ _ (ErrIsRefusal line (b ∷ bs))
    (λ same. subst (λ x. ErrIsRefusal line (x ∷ bs) (closed_by 39 Quoted line (prefix_len is_quoted_byte bs) (drop (prefix_len is_quoted_byte bs) bs))) (sym (eqb-true b 39 same)) (quoted_refusal line bs _ refl))
    (λ _. cond_both (eqb b 34) _ _ (ErrIsRefusal line (b ∷ bs))
    (λ same. subst (λ x. ErrIsRefusal line (x ∷ bs) (closed_by 34 Text line (text_len false bs) (drop (text_len false bs) bs))) (sym (eqb-true b 34 same)) (text_refusal line bs (text_split bs)))
    (λ _. cond_both (eqb b 47) _ _ (ErrIsRefusal line (b ∷ bs))
    (λ same. subst (λ x. ErrIsRefusal line (x ∷ bs) (slash_piece line bs)) (sym (eqb-true b 47 same)) (slash_refusal line bs))
    (λ _. cond_both (eqb b 58) _ _ (ErrIsRefusal line (b ∷ bs)) (λ _. twin_is_not_refused line (b ∷ bs) Colons b bs)
    (λ _. cond_both (eqb b 37) _ _ (ErrIsRefusal line (b ∷ bs)) (λ _. twin_is_not_refused line (b ∷ bs) Percents b bs)
    (λ _. cond_both (is_printable b) _ _ (ErrIsRefusal line (b ∷ bs)) (λ _. tt)
    (λ unprintable. (refl, inl (record { byte = b; others = bs; bytes_are = refl; no_separator = no_separator; unprintable = unprintable }))))))))))

-- The other way: what is a refusal is refused.
is_no_sign : (sign : ℕ) → is_printable sign ≡ true → (b : ℕ) → is_printable b ≡ false → eqb b sign ≡ false
is_no_sign sign printable b unprintable = ne_eqb b sign (λ same. true≢false (sym printable ∙ subst (λ x. is_printable x ≡ false) same unprintable))

signs_printable : (is_printable 39 ≡ true) × (is_printable 34 ≡ true) × (is_printable 47 ≡ true) × (is_printable 58 ≡ true) × (is_printable 37 ≡ true)
unfolding is_printable
signs_printable = (refl, refl, refl, refl, refl)

bad_byte_is_refused : (line b : ℕ) (bs : List ℕ) → is_separator b ≡ false → is_printable b ≡ false → first_piece line b bs ≡ Err (BadByte line)
unfolding first_piece
bad_byte_is_refused line b bs no_separator unprintable =
    let no_run = false_from_ne_true (is_run_byte b) (λ runs. true≢false (sym (run_byte_is_printable b runs) ∙ unprintable)) in
    rw (no_run, no_separator, is_no_sign 39 signs_printable.0 b unprintable, is_no_sign 34 signs_printable.1 b unprintable, is_no_sign 47 signs_printable.2 b unprintable, is_no_sign 58 signs_printable.3 b unprintable, is_no_sign 37 signs_printable.4 b unprintable, unprintable) refl

closed_by-nil : (quote : ℕ) (kind : TokenKind) (line n : ℕ) → closed_by quote kind line n [] ≡ Err (OpenQuote line)
unfolding closed_by
closed_by-nil quote kind line n = refl

closed_by-feed : (quote : ℕ) (kind : TokenKind) (line n c : ℕ) (more : List ℕ) → c ≡ 10 → 10 ≢ quote → closed_by quote kind line n (c ∷ more) ≡ Err (OpenQuote line)
unfolding closed_by
closed_by-feed quote kind line n c more feed differs = rw (feed, ne_eqb 10 quote differs) refl

closed_by-bad : (quote : ℕ) (kind : TokenKind) (line n c : ℕ) (more : List ℕ) → c ≢ quote → c ≢ 10 → closed_by quote kind line n (c ∷ more) ≡ Err (BadByte line)
unfolding closed_by
closed_by-bad quote kind line n c more no_quote no_feed = rw (ne_eqb c quote no_quote, ne_eqb c 10 no_feed) refl

-- what is read at a quote, by its content and what follows it
quoted_here : (line : ℕ) (content rest : List ℕ) → AllPass is_quoted_byte content → Stops is_quoted_byte rest → first_piece line 39 (content ++ rest) ≡ closed_by 39 Quoted line (length content) rest
quoted_here line content rest all stops =
    let len = prefix_len-of_prefix is_quoted_byte content rest all stops in
    at_single_quote line (content ++ rest) ∙ rw (len, drop_at content rest (length content) refl) refl

text_here : (line : ℕ) (content rest : List ℕ) → IsContent content → EndsText rest → first_piece line 34 (content ++ rest) ≡ closed_by 34 Text line (length content) rest
text_here line content rest is ends =
    let len = text_len-of_content content rest is ends in
    at_double_quote line (content ++ rest) ∙ rw (len, drop_at content rest (length content) refl) refl

-- a line's end is no byte that may stand between single quotes
stops_at_line : (rest : List ℕ) → EndsLine rest → Stops is_quoted_byte rest
unfolding is_quoted_byte
stops_at_line [] ends = tt
stops_at_line (b ∷ rest) ends = rw ends refl

ends_at_line : (rest : List ℕ) → EndsLine rest → EndsText rest
ends_at_line [] ends = tt
ends_at_line (b ∷ rest) ends = inr ends

closed_by-line : (quote : ℕ) (kind : TokenKind) (line n : ℕ) (rest : List ℕ) → EndsLine rest → 10 ≢ quote → closed_by quote kind line n rest ≡ Err (OpenQuote line)
closed_by-line quote kind line n [] ends differs = closed_by-nil quote kind line n
closed_by-line quote kind line n (c ∷ more) ends differs = closed_by-feed quote kind line n c more ends differs

-- a content and a last backslash take all the bytes
cut_off_here : (line : ℕ) (content : List ℕ) → IsContent content → first_piece line 34 (content ++ 92 ∷ []) ≡ Err (OpenQuote line)
cut_off_here line content is =
    let bs = content ++ 92 ∷ [] in
    let len : text_len false bs ≡ length bs = omega (arith, text_len-append content (92 ∷ []) is, text_len-cut_off 92 refl, length-append content (92 ∷ [])) in
    let past : drop (text_len false bs) bs ≡ [] = drop_all (text_len false bs) bs (omega (arith, len)) in
    at_double_quote line bs ∙ ap (closed_by 34 Text line (text_len false bs)) past ∙ closed_by-nil 34 Text line (text_len false bs)

-- a comment that no `*/` closes
open_comment_here : (line : ℕ) (body : List ℕ) → HasNoClose body → slash_piece line (42 ∷ body) ≡ Err (OpenComment line)
unfolding slash_piece closed_comment
open_comment_here line body none =
    let past : drop (length body) body ≡ [] = drop_all (length body) body (omega arith) in
    rw (comment_len-of_open body none, past) refl

open_text_here : (line : ℕ) (content rest : List ℕ) → IsContent content → EndsLine rest ⊎ (rest ≡ 92 ∷ []) → first_piece line 34 (content ++ rest) ≡ Err (OpenQuote line)
open_text_here line content rest is (inl ends) =
    text_here line content rest is (ends_at_line rest ends) ∙ closed_by-line 34 Text line (length content) rest ends (λ e. omega arith)
open_text_here line content rest is (inr last) = ap (λ xs. first_piece line 34 (content ++ xs)) last ∙ cut_off_here line content is

at : (line : ℕ) (b byte : ℕ) (bs others : List ℕ) → b ∷ bs ≡ byte ∷ others → first_piece line b bs ≡ first_piece line byte others
at line b byte bs others is = let first : b ≡ byte = cc in let rest : bs ≡ others = cc in (λ i. first_piece line (first i) (rest i))

pub refusal_is_refused : (line b : ℕ) (bs : List ℕ) (refusal : LexError) → IsRefusal line (b ∷ bs) refusal → first_piece line b bs ≡ Err refusal
refusal_is_refused line b bs (BadByte l) (same, inl r) =
    at line b r.byte bs r.others r.bytes_are ∙ bad_byte_is_refused line r.byte r.others r.no_separator r.unprintable ∙ ap (λ x. Err (BadByte x)) (sym same)
refusal_is_refused line b bs (BadByte l) (same, inr r) =
    at line b 39 bs (r.content ++ r.byte ∷ r.others) r.bytes_are ∙ quoted_here line r.content (r.byte ∷ r.others) r.is_content r.no_content
    ∙ closed_by-bad 39 Quoted line (length r.content) r.byte r.others r.no_quote r.no_line_feed ∙ ap (λ x. Err (BadByte x)) (sym same)
refusal_is_refused line b bs (OpenComment l) (same, r) =
    at line b 47 bs (42 ∷ r.body) r.bytes_are ∙ at_slash line (42 ∷ r.body) ∙ open_comment_here line r.body r.has_no_close ∙ ap (λ x. Err (OpenComment x)) (sym same)
refusal_is_refused line b bs (OpenQuote l) (same, inl r) =
    at line b 39 bs (r.content ++ r.rest) r.bytes_are ∙ quoted_here line r.content r.rest r.is_content (stops_at_line r.rest r.ends)
    ∙ closed_by-line 39 Quoted line (length r.content) r.rest r.ends (λ e. omega arith) ∙ ap (λ x. Err (OpenQuote x)) (sym same)
refusal_is_refused line b bs (OpenQuote l) (same, inr r) =
    at line b 34 bs (r.content ++ r.rest) r.bytes_are ∙ open_text_here line r.content r.rest r.is_content r.ends ∙ ap (λ x. Err (OpenQuote x)) (sym same)
refusal_is_refused line b bs TooLong is = absurd is
refusal_is_refused line b bs Memory is = absurd is

-- nothing is refused at the end of a text
pub no_refusal_at_end : (line : ℕ) (refusal : LexError) → IsRefusal line [] refusal → ⊥
no_refusal_at_end line (BadByte l) (same, inl r) = let e = r.bytes_are in cc
no_refusal_at_end line (BadByte l) (same, inr r) = let e = r.bytes_are in cc
no_refusal_at_end line (OpenComment l) (same, r) = let e = r.bytes_are in cc
no_refusal_at_end line (OpenQuote l) (same, inl r) = let e = r.bytes_are in cc
no_refusal_at_end line (OpenQuote l) (same, inr r) = let e = r.bytes_are in cc
no_refusal_at_end line TooLong is = is
no_refusal_at_end line Memory is = is
