-- The text that a run reads.
use Rattle.std.proofs.Common.{◌≡◌, ℕ, ◌<◌, ◌≤◌, List, [], ◌++◌, length, take, Option, None, Some, Ok, sym, ap, ◌∙◌, arith, append-nil, nat_lt, inl, inr}
use Rattle.std.specs.Option.{option_map}
use Rattle.std.proofs.lemmas.Bool.{cond_both, ltb-false, cases_lt}
use Rattle.std.proofs.Math.Seq.{take-append_seam}
use Rattle.std.proofs.lemmas.List.{take_all}
use Rattle.vsd_text.specs.Tokens.{tokens_of, text_limit}
use Rattle.vsd_text.specs.declared.tokens.Token.{Token}
use Rattle.vsd_outside.specs.Reading.{GivesUpTo}

-- a text with tokens isn't too long
pub short_of_lexed : (text : List ℕ) (tokens : List Token) → tokens_of text ≡ Ok tokens → length text ≤ text_limit
unfolding tokens_of
short_of_lexed text tokens =
    cond_both (nat_lt text_limit (length text)) _ _ (λ reading. reading ≡ Ok tokens → length text ≤ text_limit) (λ _ lexed. absurd cc)
    (λ within _. ltb-false text_limit (length text) within)

-- the front of a whole is the text where the text is as long as the front may be, or the whole
front_of : (limit : ℕ) (text rest : List ℕ) → length text ≤ limit → (length text < limit → rest ≡ []) → take limit (text ++ rest) ≡ text
front_of limit text rest within whole =
    elim (cases_lt (length text) limit) [
      | inl shorter ↦
          let all : text ++ rest ≡ text = ap (λ r. text ++ r) (whole shorter) ∙ append-nil text in
          ap (take limit) all ∙ take_all limit text within
      | inr longer ↦
          let exact : limit ≡ length text = omega arith in
          ap (λ n. take n (text ++ rest)) exact ∙ take-append_seam text rest
    ]

-- the text that was read is the one that the source tells
pub read_same : (limit : ℕ) (old new : Option (List ℕ)) (text told : List ℕ) → GivesUpTo limit old new text → option_map (take limit) old ≡ Some told → told ≡ text
read_same limit None new text told given is = cc
read_same limit (Some all) None text told given is = absurd (let no = given.given in cc)
read_same limit (Some all) (Some rest) text told given is =
    let whole : all ≡ text ++ rest = (let e = given.given in cc) in
    let front : take limit all ≡ told = cc in
    sym front ∙ (ap (take limit) whole ∙ front_of limit text rest given.within given.whole)
