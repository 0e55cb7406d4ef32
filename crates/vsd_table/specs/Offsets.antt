-- Where the words of a table lie, as they are computed once.
use Rattle.std.specs.Prelude.{◌≡◌}
use Rattle.vsd_rule.specs.declared.sizes.Sizes.{Sizes}
use Rattle.vsd_rule.specs.Layout.{counts_from, cells_from, rows_from, buckets_from, handles_from, region_at, casts_from, word_count}
use Rattle.vsd_table.specs.declared.offsets.Offsets.{Offsets}

abbrev pub AreOffsets : Offsets → Sizes → Type 0
AreOffsets p s = (p.counts ≡ counts_from s) × (p.cells ≡ cells_from s) × (p.rows ≡ rows_from s) × (p.buckets ≡ buckets_from s) × (p.handles ≡ handles_from s) × (p.region ≡ region_at s) × (p.casts ≡ casts_from s) × (p.end ≡ word_count s)

-- the same sizes, one by one
abbrev pub SameSizes : Sizes → Sizes → Type 0
SameSizes s t = (s.callers ≡ t.callers) × (s.sites ≡ t.sites) × (s.tokens ≡ t.tokens) × (s.rows ≡ t.rows) × (s.buckets ≡ t.buckets) × (s.hosts ≡ t.hosts) × (s.regions ≡ t.regions) × (s.miss ≡ t.miss)
