-- Regions have powers of two of rows, so that a remainder is a mask.
use Rattle.std.proofs.Common.{◌≡◌, ℕ, ◌<◌, sym, subst, arith}
use Rattle.std.proofs.Math.Nat.{mod-lt}
use Rattle.std.proofs.lemmas.Nat.{pow_pos}
use Rattle.vsd_words.specs.declared.handle.Handle.{Handle}
use Rattle.vsd_words.specs.Hash.{home_of}
use Rattle.vsd_trails.specs.CastTrails.{region_size}

pub some_rows : (region : ℕ) → 0 < region_size region
some_rows region = let some = pow_pos region in omega arith

-- a pair's home is a row of the region
pub home_in : (source target : Handle) (region home : ℕ) → home ≡ home_of source target (region_size region) → home < region_size region
unfolding home_of
home_in source target region home is = subst (λ (n : ℕ). n < region_size region) (sym is) (mod-lt _ (some_rows region))
