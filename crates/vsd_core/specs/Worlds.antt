-- The world of the tests: four types and two tokens.
use Rattle.std.specs.Prelude.{ℕ, zero, suc, ◌<◌, ◌^◌, List, [], ◌∷◌, slice_index}
use native.Mathlib.Bridge.{le_by_compare, IsLe}

-- for each type the target through the first token and the second
abbrev pub targets : List ℕ
targets = 1 ∷ 11 ∷ 2 ∷ 12 ∷ 3 ∷ 13 ∷ 4 ∷ 14 ∷ []

abbrev AreBelow : ℕ → List ℕ → Type 0
AreBelow n [] = Unit {0}
AreBelow n (x ∷ xs) = (x < n) × AreBelow n xs

below : (n : ℕ) (xs : List ℕ) → 0 < n → AreBelow n xs → (i : ℕ) → slice_index xs i < n
below n [] some_ are i = some_
below n (x ∷ xs) some_ are zero = are.0
below n (x ∷ xs) some_ are (suc i) = below n xs some_ are.1 i

pub targets_fit : {W : Type 0} (world : W) (i : ℕ) → slice_index targets i < 2 ^ 32
unfolding IsLe
targets_fit world i = below (2 ^ 32) targets (le_by_compare 1 (2 ^ 32) tt)
    (le_by_compare 2 (2 ^ 32) tt, (le_by_compare 12 (2 ^ 32) tt, (le_by_compare 3 (2 ^ 32) tt, (le_by_compare 13 (2 ^ 32) tt, (le_by_compare 4 (2 ^ 32) tt, (le_by_compare 14 (2 ^ 32) tt, (le_by_compare 5 (2 ^ 32) tt, (le_by_compare 15 (2 ^ 32) tt, tt)))))))) i
