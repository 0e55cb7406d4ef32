-- The world of the tests: four types, of which each is compatible with itself and with those before it.
use Rattle.std.specs.Prelude.{ℕ, zero, suc, ◌<◌, List, [], ◌∷◌, slice_index}
use native.Mathlib.Bridge.{le_by_compare, IsLe}

-- for each type, whether it is compatible with each
abbrev pub ladder : List ℕ
ladder = 1 ∷ 0 ∷ 0 ∷ 0 ∷ 1 ∷ 1 ∷ 0 ∷ 0 ∷ 1 ∷ 1 ∷ 1 ∷ 0 ∷ 1 ∷ 1 ∷ 1 ∷ 1 ∷ []

abbrev AreBits : List ℕ → Type 0
AreBits [] = Unit {0}
AreBits (x ∷ xs) = (x < 2) × AreBits xs

bits : (xs : List ℕ) → 0 < 2 → AreBits xs → (i : ℕ) → slice_index xs i < 2
bits [] low are i = low
bits (x ∷ xs) low are zero = are.0
bits (x ∷ xs) low are (suc i) = bits xs low are.1 i

pub ladder_of_bits : {W : Type 0} (world : W) (i : ℕ) → slice_index ladder i < 2
unfolding IsLe
ladder_of_bits world i =
    let low : 0 < 2 = le_by_compare 1 2 tt in
    let high : 1 < 2 = le_by_compare 2 2 tt in
    bits ladder low (high, (low, (low, (low, (high, (high, (low, (low, (high, (high, (high, (low, (high, (high, (high, (high, tt)))))))))))))))) i
