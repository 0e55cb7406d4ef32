-- Where a pair is looked for in the resolve cache and in the cast cache.
use Rattle.std.specs.Prelude.{◌≡◌, ℕ, ◌+◌, ◌*◌, ◌/◌, ◌%◌, ◌^◌, ◌<◌, ◌≤◌, IsTrue, bit_xor}
use Rattle.std.specs.Int.{w64, is_power_of_two, rotate_left}
use Rattle.vsd_words.specs.declared.handle.Handle.{Handle}
use Rattle.vsd_words.specs.Handle.{packed_handle}

-- a count of buckets is a power of two from 1 to 1,024
pub record IsBucketCount (buckets : ℕ) : Type 0 where
  pub power : IsTrue (is_power_of_two buckets)
  pub small : buckets ≤ 1024

-- the size of a cast region is 128, doubled at most five times
pub record IsRegionSize (size : ℕ) : Type 0 where
  pub region : ℕ
  pub small : region < 6
  pub power : size ≡ 128 * 2 ^ region

-- multiplicative hashing: the upper half of a 64-bit product by 2^64 over the golden ratio
unfoldable pub mix : ℕ → ℕ
mix x = ((x * 11400714819323198485) % 2 ^ 64) / 2 ^ 32

-- the bucket in which a call of a token on a handle is looked for
unfoldable pub bucket_of : ℕ → Handle → ℕ → ℕ
bucket_of token h buckets = mix (packed_handle h + 2 ^ 48 * token) % buckets

-- the row at which the probes for a cast begin
unfoldable pub home_of : Handle → Handle → ℕ → ℕ
home_of source target size =
    mix (bit_xor (packed_handle source) (rotate_left w64 (packed_handle target) 17)) % size
