-- The longest prefix of a list whose elements all pass a test, and other prefixes.
use Rattle.std.proofs.Common.{◌≡◌, ℕ, ◌+◌, List, [], ◌∷◌, ◌++◌, length, take, drop, Bool, true, false, refl, arith}
use Rattle.std.specs.List.{prefix_len, AllPass}
use Rattle.std.proofs.Math.Numerals.{one-add}
use Rattle.std.proofs.lemmas.Bool.{cond_both}
use Rattle.std.proofs.lemmas.List.{get_or_at, length-append}
use Rattle.std.proofs.lemmas.List.Elements.{All-head, All-tail, All-cons, All-nil}

-- an element in the midst of a list passes what all pass
pub passes_amid : (test : ℕ → Bool) (xs : List ℕ) (c : ℕ) (ys : List ℕ) → AllPass test (xs ++ c ∷ ys) → test c ≡ true
passes_amid test xs c ys all =
    let here = all (length xs) 0 (omega (arith, length-append xs (c ∷ ys))) in
    rw (get_or_at xs c ys 0 (length xs) refl) at here

pub not_empty : (xs ys : List ℕ) (c : ℕ) → xs ++ c ∷ ys ≡ [] → ⊥
not_empty [] ys c e = cc
not_empty (x ∷ xs) ys c e = cc

-- the next element, if there is one, fails the test
abbrev pub Stops : (ℕ → Bool) → List ℕ → Type 0
Stops test [] = Unit {0}
Stops test (c ∷ more) = test c ≡ false

module _ (test : ℕ → Bool) where
  -- the longest prefix and what follows it
  pub prefix_passes : (bs : List ℕ) → AllPass test (take (prefix_len test bs) bs)
  prefix_passes [] = All-nil (λ x. test x ≡ true)
  prefix_passes (b ∷ bs) =
      cond_both (test b) (1 + prefix_len test bs) 0 (λ n. AllPass test (take n (b ∷ bs)))
      (λ passes. rw one-add (All-cons (λ x. test x ≡ true) b (take (prefix_len test bs) bs) passes (prefix_passes bs)))
      (λ _. All-nil (λ x. test x ≡ true))

  pub prefix_stops : (bs : List ℕ) → Stops test (drop (prefix_len test bs) bs)
  prefix_stops [] = tt
  prefix_stops (b ∷ bs) =
      cond_both (test b) (1 + prefix_len test bs) 0 (λ n. Stops test (drop n (b ∷ bs)))
      (λ _. rw one-add (prefix_stops bs))
      (λ fails. fails)

  -- a prefix whose elements all pass, before one that fails, is the longest
  pub prefix_len-of_prefix : (bs rest : List ℕ) → AllPass test bs → Stops test rest → prefix_len test (bs ++ rest) ≡ length bs
  prefix_len-of_prefix [] [] all stops = refl
  prefix_len-of_prefix [] (c ∷ more) all stops = rw stops refl
  prefix_len-of_prefix (b ∷ bs) rest all stops =
      let passes : test b ≡ true = All-head (λ x. test x ≡ true) b bs all in
      rw (passes, prefix_len-of_prefix bs rest (All-tail (λ x. test x ≡ true) b bs all) stops, one-add) refl
