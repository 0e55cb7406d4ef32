-- Searches of a list from its front, one element further.
use Rattle.std.proofs.Common.{◌≡◌, ℕ, ◌+◌, ◌<◌, ◌≤◌, suc, Bool, true, false, cond, List, [], ◌∷◌, ◌++◌, length, IfSome, get_or, drop, Option, Some, None, refl, sym, ap, ◌∙◌, arith, drop-cons}
use Rattle.std.specs.List.{position_from}
use Rattle.std.specs.Option.{option_or}
use Rattle.std.proofs.lemmas.List.{drop_all}
use Rattle.vsd_methods.specs.Methods.{first_given}

module _ {A : Type 0} (xs : List A) (i : ℕ) (x : A) (within : i < length xs) (here : x ≡ get_or xs i x) where
  drop_here : drop i xs ≡ x ∷ drop (i + 1) xs
  drop_here =
      let next : suc i ≡ i + 1 = omega arith in
      drop-cons xs i x within ∙ ap (λ (y : A). y ∷ drop (suc i) xs) (sym here) ∙ ap (λ n. x ∷ drop n xs) next

  pub position-here : (test : A → Bool) → position_from test i (drop i xs) ≡ cond (test x) (Some i) (position_from test (i + 1) (drop (i + 1) xs))
  position-here test = ap (position_from test i) drop_here

  pub position-found : (test : A → Bool) → test x ≡ true → position_from test i (drop i xs) ≡ Some i
  position-found test is = position-here test ∙ ap (λ b. cond b (Some i) (position_from test (i + 1) (drop (i + 1) xs))) is

  pub position-further : (test : A → Bool) → test x ≡ false → position_from test i (drop i xs) ≡ position_from test (i + 1) (drop (i + 1) xs)
  position-further test is = position-here test ∙ ap (λ b. cond b (Some i) (position_from test (i + 1) (drop (i + 1) xs))) is

  pub given-here : {B : Type 0} (f : A → Option B) → first_given f (drop i xs) ≡ option_or (f x) (first_given f (drop (i + 1) xs))
  given-here f = ap (first_given f) drop_here

pub position-none : {A : Type 0} (test : A → Bool) (xs : List A) (i : ℕ) → length xs ≤ i → position_from test i (drop i xs) ≡ None
position-none test xs i past = ap (position_from test i) (drop_all i xs past)

pub given-none : {A B : Type 0} (f : A → Option B) (xs : List A) (i : ℕ) → length xs ≤ i → first_given f (drop i xs) ≡ None
given-none f xs i past = ap (first_given f) (drop_all i xs past)

pub position_from-within : {A : Type 0} (test : A → Bool) (n : ℕ) (xs : List A) (p : ℕ) → position_from test n xs ≡ Some p → p < n + length xs
position_from-within test n [] p is = absurd cc
position_from-within test n (x ∷ xs) p is =
    let M : Bool → Type 0 = λ b. cond b (Some n) (position_from test (n + 1) xs) ≡ Some p → p < n + suc (length xs) in
    let both : M (test x) = elim (test x) as M [ true ↦ (λ e. let same : n ≡ p = cc in omega arith) | false ↦ (λ e. let rest = position_from-within test (n + 1) xs p e in omega arith) ] in
    both is

pub position-inside : {A : Type 0} (test : A → Bool) (xs : List A) (o : Option ℕ) → o ≡ position_from test 0 xs → IfSome o (λ p. p < length xs)
position-inside test xs None is = tt
position-inside test xs (Some p) is = let most = position_from-within test 0 xs p (sym is) in omega (arith, most)

pub given-push : {A B : Type 0} (f : A → Option B) (xs : List A) (x : A) → first_given f (xs ++ x ∷ []) ≡ option_or (first_given f xs) (f x)
given-push f [] x = by (f x)
  where
    by : {B : Type 0} (o : Option B) → option_or o None ≡ option_or None o
    by None = refl
    by (Some y) = refl
given-push f (y ∷ xs) x = ap (option_or (f y)) (given-push f xs x) ∙ by (f y) (first_given f xs) (f x)
  where
    by : {B : Type 0} (a b o : Option B) → option_or a (option_or b o) ≡ option_or (option_or a b) o
    by None b o = refl
    by (Some z) b o = refl
