-- The world of the starts: two types and one token, of which the second type is compatible with the first.
use Rattle.std.specs.Prelude.{ℕ, zero, suc, ◌<◌, ◌^◌, List, [], ◌∷◌, slice_index}
use native.Mathlib.Bridge.{le_by_compare, IsLe}

-- for each type the target of a call on it
abbrev pub targets : List ℕ
targets = 1 ∷ 2 ∷ []

-- for each type, whether it is compatible with each
abbrev pub ladder : List ℕ
ladder = 1 ∷ 0 ∷ 1 ∷ 1 ∷ []

pub targets_fit : {W : Type 0} (world : W) (i : ℕ) → slice_index targets i < 2 ^ 32
unfolding IsLe
targets_fit world zero = le_by_compare 2 (2 ^ 32) tt
targets_fit world (suc zero) = le_by_compare 3 (2 ^ 32) tt
targets_fit world (suc (suc i)) = le_by_compare 1 (2 ^ 32) tt

pub ladder_of_bits : {W : Type 0} (world : W) (i : ℕ) → slice_index ladder i < 2
unfolding IsLe
ladder_of_bits world zero = le_by_compare 2 2 tt
ladder_of_bits world (suc zero) = le_by_compare 1 2 tt
ladder_of_bits world (suc (suc zero)) = le_by_compare 2 2 tt
ladder_of_bits world (suc (suc (suc zero))) = le_by_compare 2 2 tt
ladder_of_bits world (suc (suc (suc (suc i)))) = le_by_compare 1 2 tt
