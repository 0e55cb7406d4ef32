-- What is left of a list after its front was given.
use Rattle.std.proofs.Common.{◌≡◌, ℕ, ◌+◌, ◌≤◌, List, ◌++◌, length, take, drop, sym, ap, ◌∙◌}
use Rattle.std.proofs.lemmas.List.{take-append-drop, drop-drop, take-append-le}

-- the piece begins with the next n bytes, and the rest is left
pub give_front : (piece bytes : List ℕ) (at n : ℕ) → take n piece ≡ take n (drop at bytes) → drop at bytes ≡ take n piece ++ drop (at + n) bytes
give_front piece bytes at n h =
    sym (take-append-drop n (drop at bytes)) ∙ (ap (λ l. l ++ drop n (drop at bytes)) (sym h) ∙ ap (λ l. take n piece ++ l) (drop-drop n at bytes))

-- the same where the piece is the front of a longer room
pub give_front_of : (piece after bytes : List ℕ) (at n : ℕ) → n ≤ length piece → take n piece ≡ take n (drop at bytes)
    → drop at bytes ≡ take n (piece ++ after) ++ drop (at + n) bytes
give_front_of piece after bytes at n fits h = give_front (piece ++ after) bytes at n (take-append-le n piece after fits ∙ h)
