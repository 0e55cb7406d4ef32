-- A table has at most six cast regions, so a power of two of their number is small.
use Rattle.std.proofs.Common.{ℕ, ◌≤◌, ◌^◌, lit<}
use Rattle.std.proofs.Math.Nat.{pow-le-pow_right}
use Rattle.std.proofs.lemmas.Nat.{pow_pos}

pub few_regions : (n : ℕ) → n ≤ 6 → (1 ≤ 2 ^ n) × (2 ^ n ≤ 64)
few_regions n small = (pow_pos n, pow-le-pow_right {n = 2} (lit< tt) small)
