-- Up to which byte of a text parts can begin.
use Rattle.std.proofs.Common.{◌≡◌, ◌≢◌, ℕ, false, ◌+◌, ◌≤◌, List, [], ◌∷◌, ◌++◌, length, get_or, take, drop, Err, refl, sym, ap, ◌∙◌, subst, arith, append_assoc, ◌⊎◌, inl, inr, ⊎_elim}
use Rattle.std.specs.List.{AllPass}
use Rattle.std.proofs.lemmas.Bool.{cases_order, true≢false}
use Rattle.std.proofs.lemmas.List.{append-nil, length-append, take-append-drop, take-take, take_at, get_or_at, length_push}
use Rattle.vsd_text.specs.Bytes.{is_separator, is_quoted_byte}
use Rattle.vsd_text.specs.Tokens.{line_feeds}
use Rattle.vsd_text.specs.Spelling.{IsContent, EndsToken, IsLongest, HasNoClose, EndsLine, separator, line_comment, block_comment, Part, gap, lexeme, bytes_of, text_of, IsPart, AreParts, body_of, IsOpenQuoted, IsOpenText, IsRefusal, HasRefusal, CanBegin, IsHopeless, HasBadByte, HasBadLineFeed}
use Rattle.vsd_text.specs.declared.tokens.TokenKind.TheVariants.{Quoted, Text}
use Rattle.vsd_text.specs.declared.tokens.LexError.{LexError}
use Rattle.vsd_text.specs.declared.tokens.LexError.TheVariants.{BadByte, OpenComment, OpenQuote, TooLong, Memory}
use Rattle.vsd_text.proofs.Prefixes.{not_empty}
use Rattle.vsd_text.proofs.LineFeeds.{line_feeds-append, line_feeds-cons, quoted_has_none}
use Rattle.vsd_text.proofs.Parts.{quoted_part, text_part}
use Rattle.vsd_text.proofs.Quotes.{content-plain}
use Rattle.vsd_text.proofs.Refusals.{refusal_is_refused}
use Rattle.vsd_text.proofs.Spelled.{read_of, IsWhole, IsStopped, outcome_of, parts_give, refusal_given, sign_has_none}

-- the first one is empty, or begins with the byte that the other begins with
abbrev BeginsAs : List ℕ → List ℕ → Type 0
BeginsAs [] bs = Unit {0}
BeginsAs (c ∷ others) [] = ⊥
BeginsAs (c ∷ others) (b ∷ bs) = c ≡ b

begins_as-append : (xs new old : List ℕ) → BeginsAs new old → BeginsAs (xs ++ new) (xs ++ old)
begins_as-append [] new old begins = begins
begins_as-append (x ∷ xs) new old begins = refl

-- The first byte of the rest alone decides what may stand before it.
longest_again : (bs new old : List ℕ) → BeginsAs new old → IsLongest bs old → IsLongest bs new
longest_again bs [] old begins longest = tt
longest_again bs (c ∷ others) [] begins longest = absurd begins
longest_again bs (c ∷ others) (b ∷ more) begins longest = subst (EndsToken bs) (sym begins) longest

line_ends_again : (new old : List ℕ) → BeginsAs new old → EndsLine old → EndsLine new
line_ends_again [] old begins ends = tt
line_ends_again (c ∷ others) [] begins ends = absurd begins
line_ends_again (c ∷ others) (b ∷ more) begins ends = begins ∙ ends

part_again : (part : Part) (new old : List ℕ) → BeginsAs new old → IsPart part old → IsPart part new
part_again (gap bs) new old begins (separator is) = separator is
part_again (gap bs) new old begins (line_comment is ends) = line_comment is (line_ends_again new old begins ends)
part_again (gap bs) new old begins (block_comment is) = block_comment is
part_again (lexeme kind bs) new old begins is = (is.0, longest_again bs new old begins is.1)

parts_again : (parts : List Part) (new old : List ℕ) → BeginsAs new old → AreParts parts old → AreParts parts new
parts_again [] new old begins are = tt
parts_again (part ∷ parts) new old begins are =
    (part_again part (text_of parts ++ new) (text_of parts ++ old) (begins_as-append (text_of parts) new old begins) are.0, parts_again parts new old begins are.1)

-- one more part at the end
text_of-push : (parts : List Part) (last : Part) → text_of (parts ++ last ∷ []) ≡ text_of parts ++ bytes_of last
text_of-push [] last = append-nil (bytes_of last)
text_of-push (part ∷ parts) last = ap (λ xs. bytes_of part ++ xs) (text_of-push parts last) ∙ sym (append_assoc (bytes_of part) (text_of parts) (bytes_of last))

parts_push : (parts : List Part) (last : Part) → AreParts parts (bytes_of last) → IsPart last [] → AreParts (parts ++ last ∷ []) []
parts_push [] last are is = (is, tt)
parts_push (part ∷ parts) last are is =
    (subst (IsPart part) (sym (append-nil (text_of (parts ++ last ∷ [])) ∙ text_of-push parts last)) are.0, parts_push parts last are.1 is)

-- parts, and some of the bytes of one more
can_begin_inside : (parts : List Part) (rest : List ℕ) (last : Part) (prefix more : List ℕ) → AreParts parts rest → BeginsAs (bytes_of last) rest → bytes_of last ≡ prefix ++ more → IsPart last [] → CanBegin (text_of parts ++ prefix)
can_begin_inside parts rest last prefix more are begins is last_is = record {
  more = more;
  parts = parts ++ last ∷ [];
  is_text = append_assoc (text_of parts) prefix more ∙ ap (λ xs. text_of parts ++ xs) (sym is) ∙ sym (text_of-push parts last);
  are_parts = parts_push parts last (parts_again parts (bytes_of last) rest begins are) last_is;
}

can_begin_quoted : (parts : List Part) (content rest : List ℕ) → AreParts parts (39 ∷ content ++ rest) → AllPass is_quoted_byte content → CanBegin (text_of parts ++ 39 ∷ content)
can_begin_quoted parts content rest are all =
    can_begin_inside parts (39 ∷ content ++ rest) (lexeme Quoted (39 ∷ content ++ 39 ∷ [])) (39 ∷ content) (39 ∷ []) are refl refl (quoted_part content [] all)

can_begin_text : (parts : List Part) (content rest : List ℕ) → AreParts parts (34 ∷ content ++ rest) → IsContent content → CanBegin (text_of parts ++ 34 ∷ content)
can_begin_text parts content rest are is =
    can_begin_inside parts (34 ∷ content ++ rest) (lexeme Text (34 ∷ content ++ 34 ∷ [])) (34 ∷ content) (34 ∷ []) are refl refl (text_part content [] is)

can_begin_whole : (bs : List ℕ) (parts : List Part) (rest : List ℕ) → bs ≡ text_of parts → AreParts parts rest → CanBegin bs
can_begin_whole bs parts rest is are = record { more = []; parts = parts; is_text = append-nil bs ∙ is; are_parts = parts_again parts [] rest tt are }

-- what can begin can with fewer bytes too
can_begin_prefix : (prefix others : List ℕ) → CanBegin (prefix ++ others) → CanBegin prefix
can_begin_prefix prefix others can = record { more = others ++ can.more; parts = can.parts; is_text = sym (append_assoc prefix others can.more) ∙ can.is_text; are_parts = can.are_parts }

can_begin_before : (bs : List ℕ) (m n : ℕ) → m ≤ n → CanBegin (take n bs) → CanBegin (take m bs)
can_begin_before bs m n le can =
    let split : take n bs ≡ take m bs ++ drop m (take n bs) = sym (take-append-drop m (take n bs)) ∙ ap (λ xs. xs ++ drop m (take n bs)) (take-take m n bs le) in
    can_begin_prefix (take m bs) (drop m (take n bs)) (subst CanBegin split can)

-- no parts begin with bytes at which each text is refused that goes on from them
cannot_begin : (parts : List Part) (byte : ℕ) (prefix rest : List ℕ) (refusal : LexError) → AreParts parts (byte ∷ rest) → ((more : List ℕ) → IsRefusal (1 + line_feeds (text_of parts)) (byte ∷ (prefix ++ more)) refusal) → CanBegin (text_of parts ++ byte ∷ prefix) → ⊥
cannot_begin parts byte prefix rest refusal are refused can =
    let others = prefix ++ can.more in
    let given = parts_give 0 ((text_of parts ++ byte ∷ prefix) ++ can.more) can.parts can.is_text can.are_parts in
    let ends = refusal_given 0 ((text_of parts ++ byte ∷ prefix) ++ can.more) parts byte others refusal (append_assoc (text_of parts) (byte ∷ prefix) can.more) (parts_again parts (byte ∷ others) (byte ∷ rest) refl are) (refusal_is_refused (1 + line_feeds (text_of parts)) byte others refusal (refused can.more)) in
    cc

-- the byte after a prefix
prefix_before : (bs prefix : List ℕ) (byte : ℕ) (others : List ℕ) → bs ≡ prefix ++ byte ∷ others → take (length prefix) bs ≡ prefix
prefix_before bs prefix byte others is = ap (take (length prefix)) is ∙ take_at prefix (byte ∷ others) (length prefix) refl

byte_after : (bs prefix : List ℕ) (byte : ℕ) (others : List ℕ) → bs ≡ prefix ++ byte ∷ others → get_or bs (length prefix) 0 ≡ byte
byte_after bs prefix byte others is = ap (λ xs. get_or xs (length prefix) 0) is ∙ get_or_at prefix byte others 0 (length prefix) refl

hopeless_after : (bs prefix : List ℕ) (byte : ℕ) (others : List ℕ) → bs ≡ prefix ++ byte ∷ others → CanBegin prefix → (CanBegin (prefix ++ byte ∷ []) → ⊥) → IsHopeless bs (length prefix)
hopeless_after bs prefix byte others is can cannot = record {
  in_range = omega (arith, ap length is, length-append prefix (byte ∷ others));
  can_begin = subst CanBegin (sym (prefix_before bs prefix byte others is)) can;
  cannot = λ with_it. cannot (subst CanBegin joined with_it);
}
  where
    joined : take (length prefix + 1) bs ≡ prefix ++ byte ∷ []
    joined =
        ap (take (length prefix + 1)) (is ∙ sym (append_assoc prefix (byte ∷ []) others))
        ∙ take_at (prefix ++ byte ∷ []) others (length prefix + 1) (length_push prefix byte)

-- the byte after parts, a quote and some bytes after that
module _ (bs : List ℕ) (parts : List Part) (quote : ℕ) (content : List ℕ) (byte : ℕ) (others : List ℕ) (is : bs ≡ text_of parts ++ (quote ∷ content ++ byte ∷ others)) where
  around_quote : bs ≡ (text_of parts ++ quote ∷ content) ++ byte ∷ others
  around_quote = is ∙ sym (append_assoc (text_of parts) (quote ∷ content) (byte ∷ others))

  hopeless_in_quote : (refusal : LexError) → AreParts parts (quote ∷ content ++ byte ∷ others) → ((more : List ℕ) → IsRefusal (1 + line_feeds (text_of parts)) (quote ∷ content ++ byte ∷ more) refusal) → CanBegin (text_of parts ++ quote ∷ content) → IsHopeless bs (length (text_of parts ++ quote ∷ content))
  hopeless_in_quote refusal are refused can =
      hopeless_after bs (text_of parts ++ quote ∷ content) byte others around_quote can
      (λ with_it. cannot_begin parts quote (content ++ byte ∷ []) (content ++ byte ∷ others) refusal are
      (λ more. subst (λ xs. IsRefusal (1 + line_feeds (text_of parts)) (quote ∷ xs) refusal) (sym (append_assoc content (byte ∷ []) more)) (refused more))
      (subst CanBegin (append_assoc (text_of parts) (quote ∷ content) (byte ∷ [])) with_it))

-- a line feed is a separator
no_line_feed_unseparated : (b : ℕ) → is_separator b ≡ false → b ≢ 10
unfolding is_separator
no_line_feed_unseparated b none feed = true≢false (ap is_separator (sym feed) ∙ none)

-- A bad byte, by what stands before it.
bad_byte_after : (text : List ℕ) (line : ℕ) (parts : List Part) (rest : List ℕ) → body_of text ≡ text_of parts ++ rest → AreParts parts rest → IsRefusal (1 + line_feeds (text_of parts)) rest (BadByte line) → HasBadByte text line
bad_byte_after text line parts rest is are (line_is, inl bad) =
    let body = body_of text in
    let prefix = text_of parts in
    let whole : body ≡ prefix ++ bad.byte ∷ bad.others = is ∙ ap (λ xs. prefix ++ xs) bad.bytes_are in
    record {
      at = length prefix;
      is_hopeless = hopeless_after body prefix bad.byte bad.others whole (can_begin_whole prefix parts rest refl are)
          (cannot_begin parts bad.byte [] bad.others (BadByte (1 + line_feeds prefix)) (subst (AreParts parts) bad.bytes_are are)
          (λ more. (refl, inl (record { byte = bad.byte; others = more; bytes_are = refl; no_separator = bad.no_separator; unprintable = bad.unprintable }))));
      no_line_feed = λ feed. no_line_feed_unseparated bad.byte bad.no_separator (sym (byte_after body prefix bad.byte bad.others whole) ∙ feed);
      line_is = line_is ∙ ap (λ xs. 1 + line_feeds xs) (sym (prefix_before body prefix bad.byte bad.others whole));
    }
bad_byte_after text line parts rest is are (line_is, inr bad) =
    let body = body_of text in
    let prefix = text_of parts ++ 39 ∷ bad.content in
    let here : body ≡ text_of parts ++ (39 ∷ bad.content ++ bad.byte ∷ bad.others) = is ∙ ap (λ xs. text_of parts ++ xs) bad.bytes_are in
    let whole : body ≡ prefix ++ bad.byte ∷ bad.others = around_quote body parts 39 bad.content bad.byte bad.others here in
    let are_here : AreParts parts (39 ∷ bad.content ++ bad.byte ∷ bad.others) = subst (AreParts parts) bad.bytes_are are in
    let feeds : 1 + line_feeds (text_of parts) ≡ 1 + line_feeds prefix =
    omega (arith, line_feeds-append (text_of parts) (39 ∷ bad.content), line_feeds-cons 39 bad.content, sign_has_none.0, quoted_has_none bad.content bad.is_content) in
    record {
      at = length prefix;
      is_hopeless = hopeless_in_quote body parts 39 bad.content bad.byte bad.others here (BadByte (1 + line_feeds (text_of parts))) are_here
          (λ more. (refl, inr (record { content = bad.content; byte = bad.byte; others = more; bytes_are = refl; is_content = bad.is_content; no_content = bad.no_content; no_quote = bad.no_quote; no_line_feed = bad.no_line_feed })))
          (can_begin_quoted parts bad.content (bad.byte ∷ bad.others) are_here bad.is_content);
      no_line_feed = λ feed. bad.no_line_feed (sym (byte_after body prefix bad.byte bad.others whole) ∙ feed);
      line_is = line_is ∙ feeds ∙ ap (λ xs. 1 + line_feeds xs) (sym (prefix_before body prefix bad.byte bad.others whole));
    }

pub refusal_has_bad_byte : (text : List ℕ) (line : ℕ) → HasRefusal text (BadByte line) → HasBadByte text line
refusal_has_bad_byte text line has = bad_byte_after text line has.parts has.rest has.text_is has.are_parts has.is_refusal

-- a `*` after a body with no `*/` closes nothing
no_close-star_after : (bs prefix back : List ℕ) → HasNoClose bs → bs ++ 42 ∷ [] ≡ prefix ++ 42 ∷ 47 ∷ back → ⊥
no_close-star_after [] [] back none is = cc
no_close-star_after [] (x ∷ prefix) back none is = let tail : prefix ++ 42 ∷ 47 ∷ back ≡ [] = cc in not_empty prefix (47 ∷ back) 42 tail
no_close-star_after (b ∷ []) [] back none is = let next : ◌≡◌ {A = ℕ} 42 47 = ap (λ xs. get_or xs 1 0) is in omega arith
no_close-star_after (b ∷ c ∷ bs) [] back none is =
    let first : b ≡ 42 = cc in
    let next : c ≡ 47 = cc in
    none [] bs (ap (λ x. x ∷ c ∷ bs) first ∙ ap (λ x. 42 ∷ x ∷ bs) next)
no_close-star_after (b ∷ bs) (x ∷ prefix) back none is =
    let tail : bs ++ 42 ∷ [] ≡ prefix ++ 42 ∷ 47 ∷ back = cc in
    no_close-star_after bs prefix back (λ f g e. none (b ∷ f) g (ap (λ xs. b ∷ xs) e)) tail

-- an open comment can be closed
pub open_comment_can_begin : (text : List ℕ) (line : ℕ) → HasRefusal text (OpenComment line) → CanBegin (body_of text)
open_comment_can_begin text line has =
    let open_part = has.is_refusal.1 in
    subst CanBegin (sym (has.text_is ∙ ap (λ xs. text_of has.parts ++ xs) open_part.bytes_are))
    (can_begin_inside has.parts (47 ∷ 42 ∷ open_part.body) (gap (47 ∷ 42 ∷ open_part.body ++ 42 ∷ 47 ∷ [])) (47 ∷ 42 ∷ open_part.body) (42 ∷ 47 ∷ []) (subst (AreParts has.parts) open_part.bytes_are has.are_parts) refl refl
    (block_comment (record { body = open_part.body; bytes_are = refl; is_next = λ prefix back is. no_close-star_after open_part.body prefix back open_part.has_no_close is })))

content-append : (xs ys : List ℕ) → IsContent xs → IsContent ys → IsContent (xs ++ ys)
content-append [] ys is is' = is'
content-append (b ∷ []) ys is is' = content-plain b ys is is'
content-append (b ∷ c ∷ bs) ys (inl both) is' = inl (both.0, content-append (c ∷ bs) ys both.1 is')
content-append (b ∷ c ∷ bs) ys (inr both) is' = inr (both.0, content-append bs ys both.1 is')

-- a quote that is left open, by what follows its content
left_open : (text : List ℕ) (parts : List Part) (quote : ℕ) (content rest : List ℕ) (refusal : LexError) → body_of text ≡ text_of parts ++ (quote ∷ content ++ rest) → AreParts parts (quote ∷ content ++ rest) → ((ending : List ℕ) → EndsLine ending → IsRefusal (1 + line_feeds (text_of parts)) (quote ∷ content ++ ending) refusal) → CanBegin (text_of parts ++ quote ∷ content) → EndsLine rest → CanBegin (body_of text) ⊎ HasBadLineFeed text
left_open text parts quote content [] refusal is are refused can ends =
    inl (subst CanBegin (sym (is ∙ ap (λ xs. text_of parts ++ quote ∷ xs) (append-nil content))) can)
left_open text parts quote content (byte ∷ others) refusal is are refused can ends =
    inr (record {
      at = length (text_of parts ++ quote ∷ content);
      is_hopeless = hopeless_in_quote (body_of text) parts quote content byte others is refusal are (λ more. refused (byte ∷ more) ends) can;
      is_line_feed = byte_after (body_of text) (text_of parts ++ quote ∷ content) byte others (around_quote (body_of text) parts quote content byte others is) ∙ ends;
    })

-- a last backslash can take a byte yet
text_cut_off : (parts : List Part) (content : List ℕ) → AreParts parts (34 ∷ content ++ 92 ∷ []) → IsContent content → CanBegin (text_of parts ++ (34 ∷ content ++ 92 ∷ []))
text_cut_off parts content are is =
    let taken : IsContent (content ++ 92 ∷ 92 ∷ []) = content-append content (92 ∷ 92 ∷ []) is (inr (refl, tt)) in
    let longer : CanBegin (text_of parts ++ (34 ∷ content ++ 92 ∷ 92 ∷ [])) = can_begin_text parts (content ++ 92 ∷ 92 ∷ []) [] (parts_again parts _ (34 ∷ content ++ 92 ∷ []) refl are) taken in
    let split : text_of parts ++ (34 ∷ content ++ 92 ∷ 92 ∷ []) ≡ (text_of parts ++ (34 ∷ content ++ 92 ∷ [])) ++ 92 ∷ [] =
    ap (λ xs. text_of parts ++ 34 ∷ xs) (sym (append_assoc content (92 ∷ []) (92 ∷ []))) ∙ sym (append_assoc (text_of parts) (34 ∷ content ++ 92 ∷ []) (92 ∷ [])) in
    can_begin_prefix (text_of parts ++ (34 ∷ content ++ 92 ∷ [])) (92 ∷ []) (subst CanBegin split longer)

open_quote_after : (text : List ℕ) (line : ℕ) (parts : List Part) (rest : List ℕ) → body_of text ≡ text_of parts ++ rest → AreParts parts rest → IsOpenQuoted rest ⊎ IsOpenText rest → CanBegin (body_of text) ⊎ HasBadLineFeed text
open_quote_after text line parts rest is are (inl quoted) =
    let here = is ∙ ap (λ xs. text_of parts ++ xs) quoted.bytes_are in
    let are_here = subst (AreParts parts) quoted.bytes_are are in
    left_open text parts 39 quoted.content quoted.rest (OpenQuote (1 + line_feeds (text_of parts))) here are_here
    (λ ending ends. (refl, inl (record { content = quoted.content; rest = ending; bytes_are = refl; is_content = quoted.is_content; ends = ends })))
    (can_begin_quoted parts quoted.content quoted.rest are_here quoted.is_content) quoted.ends
open_quote_after text line parts rest is are (inr open_text) =
    let here = is ∙ ap (λ xs. text_of parts ++ xs) open_text.bytes_are in
    let are_here = subst (AreParts parts) open_text.bytes_are are in
    ⊎_elim
    (left_open text parts 34 open_text.content open_text.rest (OpenQuote (1 + line_feeds (text_of parts))) here are_here
    (λ ending ends. (refl, inr (record { content = open_text.content; rest = ending; bytes_are = refl; is_content = open_text.is_content; ends = inl ends })))
    (can_begin_text parts open_text.content open_text.rest are_here open_text.is_content))
    (λ last.
    let cut = ap (λ xs. 34 ∷ open_text.content ++ xs) last in
    inl (subst CanBegin (sym (here ∙ ap (λ xs. text_of parts ++ xs) cut)) (text_cut_off parts open_text.content (subst (AreParts parts) cut are_here) open_text.is_content)))
    open_text.ends

pub open_quote_ends : (text : List ℕ) (line : ℕ) → HasRefusal text (OpenQuote line) → CanBegin (body_of text) ⊎ HasBadLineFeed text
open_quote_ends text line has = open_quote_after text line has.parts has.rest has.text_is has.are_parts has.is_refusal.1

-- no byte is hopeless in bytes with which parts can begin, and only one in any
none_is_hopeless : (bs : List ℕ) (at : ℕ) → CanBegin bs → IsHopeless bs at → ⊥
none_is_hopeless bs at can here =
    here.cannot (can_begin_prefix (take (at + 1) bs) (drop (at + 1) bs) (subst CanBegin (sym (take-append-drop (at + 1) bs)) can))

one_is_hopeless : (bs : List ℕ) (at other : ℕ) → IsHopeless bs at → IsHopeless bs other → at ≡ other
one_is_hopeless bs at other here there =
    ⊎_elim (λ same. same)
    (λ differ. absurd (⊎_elim
    (λ lt. here.cannot (can_begin_before bs (at + 1) other (omega arith) there.can_begin))
    (λ gt. there.cannot (can_begin_before bs (other + 1) at (omega arith) here.can_begin))
    differ))
    (cases_order at other)

-- the refusal of a text with a bad byte
refusal_is_bad_byte : (text : List ℕ) (line : ℕ) (refusal : LexError) → HasBadByte text line → HasRefusal text refusal → refusal ≡ BadByte line
refusal_is_bad_byte text line (BadByte other) bad has =
    let found = refusal_has_bad_byte text other has in
    let same = one_is_hopeless (body_of text) found.at bad.at found.is_hopeless bad.is_hopeless in
    ap BadByte (found.line_is ∙ ap (λ n. 1 + line_feeds (take n (body_of text))) same ∙ sym bad.line_is)
refusal_is_bad_byte text line (OpenComment other) bad has = absurd (none_is_hopeless (body_of text) bad.at (open_comment_can_begin text other has) bad.is_hopeless)
refusal_is_bad_byte text line (OpenQuote other) bad has =
    absurd (⊎_elim
    (λ can. none_is_hopeless (body_of text) bad.at can bad.is_hopeless)
    (λ (found : HasBadLineFeed text).
    let same = one_is_hopeless (body_of text) bad.at found.at bad.is_hopeless found.is_hopeless in
    bad.no_line_feed (ap (λ n. get_or (body_of text) n 0) same ∙ found.is_line_feed))
    (open_quote_ends text other has))
refusal_is_bad_byte text line TooLong bad has = absurd has.is_refusal
refusal_is_bad_byte text line Memory bad has = absurd has.is_refusal

pub bad_byte_is_given : (text : List ℕ) (line : ℕ) → HasBadByte text line → read_of text ≡ Err (BadByte line)
bad_byte_is_given text line bad =
    ⊎_elim
    (λ (whole : IsWhole text). absurd (none_is_hopeless (body_of text) bad.at (can_begin_whole (body_of text) whole.parts [] whole.text_is whole.are_parts) bad.is_hopeless))
    (λ (stopped : IsStopped text). stopped.gives ∙ ap Err (refusal_is_bad_byte text line stopped.refusal bad stopped.has))
    (outcome_of text)
