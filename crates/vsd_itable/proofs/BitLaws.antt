-- A matrix of bits as a list.
use Rattle.std.proofs.Common.{◌≡◌, ℕ, ◌+◌, ◌*◌, ◌/◌, ◌%◌, ◌<◌, ◌≤◌, inl, inr, List, map, length, get_or, refl, sym, ap, ◌∙◌, subst, arith}
use Rattle.std.specs.List.{range_with_len}
use Rattle.std.proofs.lemmas.Bool.{cases_lt}
use Rattle.std.proofs.lemmas.List.{get_or_past}
use Rattle.std.proofs.lemmas.List.FromFn.{get_or-map-range_with_len, length-map-range_with_len}
use Rattle.std.proofs.lemmas.Nat.{div-mul-add, mod-mul-add, mul-add-lt}
use Rattle.std.proofs.lemmas.Nat.Bits.{bit_at-lt}
use Rattle.vsd_compat.specs.Matrices.{Bits}
use Rattle.vsd_itable.specs.BitList.{bit_in_place, bit_of, bits_list}

-- the entry of two types is their bit
pub bit-entry : (n : ℕ) (b : Bits) (t u : ℕ) → t < n → u < n → get_or (bits_list n b) (t * n + u) 0 ≡ bit_of b t u
bit-entry n b t u t_in u_in =
    let within : t * n + u < n * n = omega (arith, mul-add-lt t n u n t_in u_in) in
    let read = get_or-map-range_with_len (bit_in_place n b) 0 (n * n) (t * n + u) (t * n + u) 0 within (omega arith) in
    read ∙ ap (λ k. bit_of b k ((t * n + u) % n)) (div-mul-add t n u u_in) ∙ ap (bit_of b t) (mod-mul-add t n u u_in)
