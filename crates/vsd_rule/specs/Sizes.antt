-- The ranges of a table's sizes.
use Rattle.std.specs.Prelude.{◌<◌, ◌≤◌}
use Rattle.vsd_words.specs.Hash.{IsBucketCount}
use Rattle.vsd_rule.specs.declared.sizes.Sizes.{Sizes}

-- what there is of callers, hosts and cast regions
pub record LawfulCounts (s : Sizes) : Type 0 where
  pub some_caller : 0 < s.callers
  pub callers : s.callers ≤ 16
  pub hosts : s.hosts ≤ 256
  pub some_region : 0 < s.regions
  pub regions : s.regions ≤ 6

-- what there is of sites, tokens and rows, and when a cell is patched
pub record LawfulRows (s : Sizes) : Type 0 where
  pub sites : s.sites ≤ 256
  pub tokens : s.tokens ≤ 256
  pub rows : s.rows ≤ 1024
  pub some_miss : 0 < s.miss
  pub miss : s.miss ≤ 1000

pub record LawfulSizes (s : Sizes) : Type 0 where
  pub counts : LawfulCounts s
  pub rows : LawfulRows s
  pub buckets : IsBucketCount s.buckets
