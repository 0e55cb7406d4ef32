-- A remainder by a power of two is a mask.
use Rattle.std.proofs.Common.{◌≡◌, ℕ, ◌+◌, ◌-◌, ◌*◌, ◌/◌, ◌≤◌, ◌%◌, ◌^◌, inl, inr, suc, zero, subst, sym, ap, ◌∙◌, arith, eq-eqb, pow_mono, IsTrue}
use Rattle.std.proofs.Math.Nat.{pow-suc}
use Rattle.std.proofs.lemmas.Nat.{and_mask, pow-add, zero_from_ones, ones_le_self}
use Rattle.std.proofs.lemmas.Bool.{cases_lt, eqb-true}
use Rattle.std.specs.Int.{is_power_of_two}
use Rattle.std.specs.Int.Count.{ones_step}
use Rattle.std.specs.Int.RustNames.{bit_and, count_ones}
use Rattle.vsd_words.specs.Hash.{IsBucketCount, IsRegionSize}

-- a number with one bit set is a power of two; `size` bounds the number
exponent_below : (size n : ℕ) → n ≤ size → count_ones n ≡ 1 → (k : ℕ) × (n ≡ 2 ^ k)
exponent_below zero n small one = absurd (omega (arith, ones_le_self n))
exponent_below (suc size) n small one =
    let step : count_ones n ≡ n % 2 + count_ones (n / 2) = ones_step n in
    elim (cases_lt (n % 2) 1) [
      | inl even ↦
          let half = exponent_below size (n / 2) (omega arith) (omega arith) in
          let doubled : 2 ^ suc half.0 ≡ 2 ^ half.0 * 2 = pow-suc 2 half.0 in
          (suc half.0, omega (arith, half.1))
      | inr odd ↦
          let rest : n / 2 ≡ 0 = zero_from_ones (n / 2) (omega arith) in
          (0, omega arith)
    ]

exponent : (n : ℕ) → IsTrue (is_power_of_two n) → (k : ℕ) × (n ≡ 2 ^ k)
exponent n power = exponent_below n n (omega arith) (eqb-true (count_ones n) 1 power)

one_bit : (k : ℕ) → count_ones (2 ^ k) ≡ 1
one_bit zero = omega (arith, ones_step 1, ones_le_self 0)
one_bit (suc k) =
    let doubled : 2 ^ suc k ≡ 2 ^ k * 2 = pow-suc 2 k in
    let half : 2 ^ suc k / 2 ≡ 2 ^ k = omega arith in
    let step : count_ones (2 ^ suc k) ≡ 2 ^ suc k % 2 + count_ones (2 ^ suc k / 2) = ones_step (2 ^ suc k) in
    let lower : count_ones (2 ^ suc k / 2) ≡ 1 = ap count_ones half ∙ one_bit k in
    omega arith

-- each power of two up to 1,024 is a count of buckets
pub bucket_count_of_power : (k : ℕ) → k ≤ 10 → IsBucketCount (2 ^ k)
bucket_count_of_power k small = record {
  power = eq-eqb (count_ones (2 ^ k)) 1 (one_bit k);
  small = pow_mono small;
}

mask_of_power : (n size k : ℕ) → size ≡ 2 ^ k → bit_and n (size - 1) ≡ n % size
mask_of_power n size k power = subst (λ s. bit_and n (s - 1) ≡ n % s) (sym power) (and_mask n k)

pub mask_of_buckets : (n buckets : ℕ) → IsBucketCount buckets → bit_and n (buckets - 1) ≡ n % buckets
mask_of_buckets n buckets count =
    let k = exponent buckets count.power in mask_of_power n buckets k.0 k.1

pub mask_of_region : (n size : ℕ) → IsRegionSize size → bit_and n (size - 1) ≡ n % size
mask_of_region n size region =
    mask_of_power n size (7 + region.region) (region.power ∙ sym (pow-add 2 7 region.region))
