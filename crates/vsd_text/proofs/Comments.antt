-- What stands between `/*` and `*/`.
use Rattle.std.proofs.Common.{◌≡◌, ℕ, suc, List, [], ◌∷◌, ◌++◌, length, Bool, true, false, eqb, ◌&&◌, refl, sym, ap, ◌∙◌}
use Rattle.std.proofs.Math.Numerals.{one-add}
use Rattle.std.proofs.lemmas.Bool.{eqb-true, and_parts, false_from_ne_true, false≢true, true≢false}
use Rattle.vsd_text.specs.Tokens.{comment_len, begins_with}
use Rattle.vsd_text.specs.Spelling.{HasNoClose}

-- `*/` stands at the front
abbrev closes : ℕ → List ℕ → Bool
closes b bs = eqb b 42 && begins_with 47 bs

comment_len-closed : (b : ℕ) (bs : List ℕ) → closes b bs ≡ true → comment_len (b ∷ bs) ≡ 0
unfolding comment_len
comment_len-closed b bs is = rw is refl

comment_len-open : (b : ℕ) (bs : List ℕ) → closes b bs ≡ false → comment_len (b ∷ bs) ≡ suc (comment_len bs)
unfolding comment_len
comment_len-open b bs is = rw (is, one-add) refl

comment_len-nil : comment_len [] ≡ 0
unfolding comment_len
comment_len-nil = refl

no_close-tail : (b : ℕ) (bs : List ℕ) → HasNoClose (b ∷ bs) → HasNoClose bs
no_close-tail b bs none prefix back is = none (b ∷ prefix) back (ap (λ xs. b ∷ xs) is)

begins_with_is : (c : ℕ) (bs : List ℕ) → begins_with c bs ≡ true → (more : List ℕ) × (bs ≡ c ∷ more)
begins_with_is c [] is = absurd (false≢true is)
begins_with_is c (b ∷ bs) is = (bs, ap (λ x. x ∷ bs) (eqb-true b c is))

-- where `*/` stands at the front
closes_is : (b : ℕ) (bs : List ℕ) → closes b bs ≡ true → (more : List ℕ) × (b ∷ bs ≡ 42 ∷ 47 ∷ more)
closes_is b bs is =
    let parts = and_parts (eqb b 42) (begins_with 47 bs) is in
    let rest = begins_with_is 47 bs parts.1 in
    let first : b ≡ 42 = eqb-true b 42 parts.0 in
    (rest.0, ap (λ x. x ∷ bs) first ∙ ap (λ xs. 42 ∷ xs) rest.1)

no_close-nil : HasNoClose []
no_close-nil [] back is = cc
no_close-nil (x ∷ prefix) back is = cc

no_close-star : HasNoClose (42 ∷ [])
no_close-star [] back is = cc
no_close-star (x ∷ prefix) back is = let tail : [] ≡ prefix ++ 42 ∷ 47 ∷ back = cc in no_close-nil prefix back tail

-- no `*/` comes with one byte more, unless it stands at the front
no_close-cons : (b : ℕ) (bs : List ℕ) → closes b bs ≡ false → HasNoClose bs → HasNoClose (b ∷ bs)
no_close-cons b bs unclosed none [] back is =
    let first : b ≡ 42 = cc in
    let rest : bs ≡ 47 ∷ back = cc in
    let here : closes b bs ≡ true = rw (first, rest) refl in
    true≢false (sym here ∙ unclosed)
no_close-cons b bs unclosed none (x ∷ prefix) back is = let tail : bs ≡ prefix ++ 42 ∷ 47 ∷ back = cc in none prefix back tail

-- the front of bytes decides whether `*/` stands there
closes-append : (b : ℕ) (bs more : List ℕ) (c : ℕ) → closes b (bs ++ c ∷ more) ≡ closes b (bs ++ c ∷ [])
closes-append b [] more c = refl
closes-append b (d ∷ bs) more c = refl

-- Bytes after `/*`: those before the next `*/` and those after it, or none is there.
pub data CommentSplit (bs : List ℕ) : Type 0 where
  closed : (body more : List ℕ) → bs ≡ body ++ 42 ∷ 47 ∷ more → HasNoClose (body ++ 42 ∷ []) → CommentSplit bs
  open_ended : HasNoClose bs → CommentSplit bs

split-cons : (b : ℕ) (bs : List ℕ) (t : Bool) → closes b bs ≡ t → CommentSplit bs → CommentSplit (b ∷ bs)
split-cons b bs true is split = let found = closes_is b bs is in closed [] found.0 found.1 no_close-star
split-cons b bs false is (closed body more are none) =
    let same = closes-append b body (47 ∷ more) 42 in
    let unclosed : closes b (body ++ 42 ∷ []) ≡ false = sym same ∙ ap (closes b) (sym are) ∙ is in
    closed (b ∷ body) more (ap (λ xs. b ∷ xs) are) (no_close-cons b (body ++ 42 ∷ []) unclosed none)
split-cons b bs false is (open_ended none) = open_ended (no_close-cons b bs is none)

pub comment_split : (bs : List ℕ) → CommentSplit bs
comment_split [] = open_ended no_close-nil
comment_split (b ∷ bs) = split-cons b bs (closes b bs) refl (comment_split bs)

-- no `*/` at the front of bytes that have none
open_front : (b : ℕ) (bs : List ℕ) → HasNoClose (b ∷ bs) → closes b bs ≡ false
open_front b bs none = false_from_ne_true (closes b bs) (λ is. let found = closes_is b bs is in none [] found.0 found.1)

-- all of a body stands before its `*/`
pub comment_len-of_body : (body more : List ℕ) → HasNoClose (body ++ 42 ∷ []) → comment_len (body ++ 42 ∷ 47 ∷ more) ≡ length body
comment_len-of_body [] more none = comment_len-closed 42 (47 ∷ more) refl
comment_len-of_body (b ∷ body) more none =
    let unclosed : closes b (body ++ 42 ∷ 47 ∷ more) ≡ false = closes-append b body (47 ∷ more) 42 ∙ open_front b (body ++ 42 ∷ []) none in
    comment_len-open b (body ++ 42 ∷ 47 ∷ more) unclosed ∙ ap suc (comment_len-of_body body more (no_close-tail b (body ++ 42 ∷ []) none))

pub comment_len-of_open : (bs : List ℕ) → HasNoClose bs → comment_len bs ≡ length bs
comment_len-of_open [] none = comment_len-nil
comment_len-of_open (b ∷ bs) none = comment_len-open b bs (open_front b bs none) ∙ ap suc (comment_len-of_open bs (no_close-tail b bs none))
