-- A square matrix of bits as a list, row by row.
use Rattle.std.specs.Prelude.{ℕ, ◌+◌, ◌*◌, ◌/◌, ◌%◌, ◌<◌, List, map, slice_index}
use Rattle.std.specs.Int.{bit_at}
use Rattle.std.specs.List.{range_with_len}
use Rattle.std.proofs.Common.{inl, inr, lit<, get_or, sym, subst, arith}
use Rattle.std.proofs.lemmas.Bool.{cases_lt}
use Rattle.std.proofs.lemmas.List.{get_or_past}
use Rattle.std.proofs.lemmas.List.FromFn.{get_or-map-range_with_len, length-map-range_with_len}
use Rattle.std.proofs.lemmas.Nat.Bits.{bit_at-lt}
use Rattle.vsd_compat.specs.Matrices.{Bits}

-- the bit of two numbers
abbrev pub bit_of : Bits → ℕ → ℕ → ℕ
bit_of b t u = bit_at (slice_index b.words (t * b.width + u / 64)) (u % 64)

-- the bit at a place, in rows of so many
abbrev pub bit_in_place : ℕ → Bits → ℕ → ℕ
bit_in_place count b i = bit_of b (i / count) (i % count)

abbrev pub bits_list : ℕ → Bits → List ℕ
bits_list count b = map (bit_in_place count b) (range_with_len 0 (count * count))

-- each entry is a bit
pub bit-below : (n : ℕ) (b : Bits) (i : ℕ) → slice_index (bits_list n b) i < 2
bit-below n b i = elim (cases_lt i (n * n)) [
  | inl within ↦ subst (λ k. k < 2) (sym (get_or-map-range_with_len (bit_in_place n b) 0 (n * n) i i 0 within (omega arith))) (bit_at-lt _ _)
  | inr past ↦ subst (λ k. k < 2) (sym (get_or_past (bits_list n b) i 0 (omega (arith, past, length-map-range_with_len (bit_in_place n b) 0 (n * n))))) (lit< tt)
]
