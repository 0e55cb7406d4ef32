-- Counts of faults: u64 that never fall.
use Rattle.std.specs.Prelude.{ℕ, ◌+◌, ◌-◌, ◌^◌, ◌≤◌, min}

-- a count after one more: at the end of a u64 it stands still
abbrev pub one_more : ℕ → ℕ
one_more count = min (count + 1) (2 ^ 64 - 1)

-- the count rose: by one at least, or it stands at the end of a u64
abbrev pub Rose : ℕ → ℕ → Type 0
Rose old new = one_more old ≤ new
