-- What stands between double quotes.
use Rattle.std.proofs.Common.{◌≡◌, ℕ, suc, ◌+◌, List, [], ◌∷◌, ◌++◌, length, false, eqb, refl, ap, ◌∙◌, arith, ◌⊎◌, inl, inr, ⊎_elim}
use Rattle.std.proofs.Math.Numerals.{one-add}
use Rattle.std.proofs.lemmas.Bool.{ne_eqb, eqb-true, eqb-false, cases_Bool}
use Rattle.vsd_text.specs.Tokens.{text_len}
use Rattle.vsd_text.specs.Spelling.{IsPlain, IsContent}

-- a Text token ends here: by its quote, or unclosed
abbrev pub EndsText : List ℕ → Type 0
EndsText [] = Unit {0}
EndsText (c ∷ more) = (c ≡ 34) ⊎ (c ≡ 10)

text_len-at_end : (rest : List ℕ) → EndsText rest → text_len false rest ≡ 0
unfolding text_len
text_len-at_end [] ends = refl
text_len-at_end (c ∷ more) (inl quote) = rw quote refl
text_len-at_end (c ∷ more) (inr feed) = rw feed refl

text_len-plain : (b : ℕ) (bs : List ℕ) → IsPlain b → text_len false (b ∷ bs) ≡ suc (text_len false bs)
unfolding text_len
text_len-plain b bs plain = rw (ne_eqb b 34 plain.no_quote, ne_eqb b 10 plain.no_line_feed, ne_eqb b 92 plain.no_backslash, one-add) refl

text_len-taken : (c : ℕ) (bs : List ℕ) → text_len false (92 ∷ c ∷ bs) ≡ suc (suc (text_len false bs))
unfolding text_len
text_len-taken c bs = omega arith

-- a content stands before what ends the bytes after it
pub text_len-append : (content rest : List ℕ) → IsContent content → text_len false (content ++ rest) ≡ length content + text_len false rest
text_len-append [] rest is = omega arith
text_len-append (b ∷ []) rest plain = omega (arith, text_len-plain b rest plain)
text_len-append (b ∷ c ∷ bs) rest (inl both) = omega (arith, text_len-plain b ((c ∷ bs) ++ rest) both.0, text_len-append (c ∷ bs) rest both.1)
text_len-append (b ∷ c ∷ bs) rest (inr both) =
    omega (arith, ap (λ x. text_len false (x ∷ c ∷ (bs ++ rest))) both.0, text_len-taken c (bs ++ rest), text_len-append bs rest both.1)

pub text_len-of_content : (content rest : List ℕ) → IsContent content → EndsText rest → text_len false (content ++ rest) ≡ length content
text_len-of_content content rest is ends = omega (arith, text_len-append content rest is, text_len-at_end rest ends)

-- Bytes after a double quote: a content up to an end, or one with a last backslash that has nothing to take.
pub data TextSplit (bs : List ℕ) : Type 0 where
  ended : (content rest : List ℕ) → bs ≡ content ++ rest → IsContent content → EndsText rest → TextSplit bs
  cut_off : (content : List ℕ) → bs ≡ content ++ 92 ∷ [] → IsContent content → text_len false bs ≡ length bs → TextSplit bs

pub content-plain : (b : ℕ) (content : List ℕ) → IsPlain b → IsContent content → IsContent (b ∷ content)
content-plain b [] plain is = plain
content-plain b (c ∷ content) plain is = inl (plain, is)

split-plain : (b : ℕ) (bs : List ℕ) → IsPlain b → TextSplit bs → TextSplit (b ∷ bs)
split-plain b bs plain (ended content rest is content_is ends) = ended (b ∷ content) rest (ap (λ xs. b ∷ xs) is) (content-plain b content plain content_is) ends
split-plain b bs plain (cut_off content is content_is len) =
    cut_off (b ∷ content) (ap (λ xs. b ∷ xs) is) (content-plain b content plain content_is) (text_len-plain b bs plain ∙ ap suc len)

split-taken : (b c : ℕ) (bs : List ℕ) → b ≡ 92 → TextSplit bs → TextSplit (b ∷ c ∷ bs)
split-taken b c bs backslash (ended content rest is content_is ends) = ended (b ∷ c ∷ content) rest (ap (λ xs. b ∷ c ∷ xs) is) (inr (backslash, content_is)) ends
split-taken b c bs backslash (cut_off content is content_is len) =
    cut_off (b ∷ c ∷ content) (ap (λ xs. b ∷ c ∷ xs) is) (inr (backslash, content_is))
    (ap (λ x. text_len false (x ∷ c ∷ bs)) backslash ∙ text_len-taken c bs ∙ ap (λ n. suc (suc n)) len)

-- what a byte between double quotes is
data ByteInText (b : ℕ) : Type 0 where
  end : (b ≡ 34) ⊎ (b ≡ 10) → ByteInText b
  backslash : b ≡ 92 → ByteInText b
  plain : IsPlain b → ByteInText b

byte_in_text : (b : ℕ) → ByteInText b
byte_in_text b =
    ⊎_elim (λ e. end (inl (eqb-true b 34 e)))
    (λ no_quote. ⊎_elim (λ e. end (inr (eqb-true b 10 e)))
    (λ no_feed. ⊎_elim (λ e. backslash (eqb-true b 92 e))
    (λ no_backslash. plain (record { no_quote = eqb-false b 34 no_quote; no_line_feed = eqb-false b 10 no_feed; no_backslash = eqb-false b 92 no_backslash }))
    (cases_Bool (eqb b 92))) (cases_Bool (eqb b 10))) (cases_Bool (eqb b 34))

pub text_len-cut_off : (b : ℕ) → b ≡ 92 → text_len false (b ∷ []) ≡ 1
unfolding text_len
text_len-cut_off b is = rw is refl

split-last : (b : ℕ) → ByteInText b → TextSplit (b ∷ [])
split-last b (end ends) = ended [] (b ∷ []) refl tt ends
split-last b (backslash is) = cut_off [] (ap (λ x. x ∷ []) is) tt (text_len-cut_off b is)
split-last b (plain is) = ended (b ∷ []) [] refl is tt

split-next : (b c : ℕ) (bs : List ℕ) → ByteInText b → TextSplit (c ∷ bs) → TextSplit bs → TextSplit (b ∷ c ∷ bs)
split-next b c bs (end ends) after later = ended [] (b ∷ c ∷ bs) refl tt ends
split-next b c bs (backslash is) after later = split-taken b c bs is later
split-next b c bs (plain is) after later = split-plain b (c ∷ bs) is after

pub text_split : (bs : List ℕ) → TextSplit bs
text_split [] = ended [] [] refl tt tt
text_split (b ∷ []) = split-last b (byte_in_text b)
text_split (b ∷ c ∷ bs) = split-next b c bs (byte_in_text b) (text_split (c ∷ bs)) (text_split bs)
