-- The words of a table, by purpose. The rule speaks of these lists, so it says nothing of where they lie.
use Rattle.std.specs.Prelude.{ℕ, zero, suc, ◌+◌, ◌*◌, List, [], ◌∷◌, take, drop, slice_index}
use Rattle.vsd_rule.specs.declared.sizes.Sizes.{Sizes}
use Rattle.vsd_rule.specs.Layout.{counts_from, cells_from, rows_from, buckets_from, handles_from, handle_rows, region_at, casts_from, cast_rows}

pub record Zones : Type 0 where
  pub epoch : ℕ
  -- the callers' epoch words
  pub pins : List ℕ
  pub counts : List ℕ
  pub cells : List ℕ
  -- four words a row
  pub rows : List ℕ
  pub buckets : List ℕ
  pub handles : List ℕ
  pub region : ℕ
  -- three words a cast row
  pub casts : List ℕ

-- n words from the a-th on
unfoldable pub window : ℕ → ℕ → List ℕ → List ℕ
window a n words = take n (drop a words)

-- n words, the a-th and each eighth after it
unfoldable pub every_eighth : ℕ → ℕ → List ℕ → List ℕ
every_eighth a zero words = []
every_eighth a (suc n) words = slice_index words a ∷ every_eighth (a + 8) n words

unfoldable pub zones : Sizes → List ℕ → Zones
zones s words = record {
  epoch = slice_index words 0;
  pins = every_eighth 8 s.callers words;
  counts = window (counts_from s) s.tokens words;
  cells = window (cells_from s) s.sites words;
  rows = window (rows_from s) (4 * s.rows) words;
  buckets = window (buckets_from s) s.buckets words;
  handles = window (handles_from s) (handle_rows s) words;
  region = slice_index words (region_at s);
  casts = window (casts_from s) (3 * cast_rows s) words;
}
