-- Where a table's words lie in memory, and how they are numbered when they are printed.
-- The epoch word and each caller's epoch word lie on cache lines of their own, and no counter lies on the line of a cell.
-- The words between stay 0 and are nobody's.
use Rattle.std.specs.Prelude.{◌≡◌, ◌<◌, ◌≤◌, ℕ, ◌+◌, ◌-◌, ◌*◌, ◌/◌, ◌^◌, if◌then◌else◌, nat_lt}
use Rattle.vsd_rule.specs.declared.sizes.Sizes.{Sizes}

-- a caller's epoch word; the epoch is word 0
abbrev pub pin_at : ℕ → ℕ
pin_at caller = 8 + 8 * caller

module _ (s : Sizes) where
  -- the first of the counters, one per token
  abbrev pub counts_from : ℕ
  counts_from = 8 + 8 * s.callers

  -- the first of the cells, one per site, seven words past the last counter
  abbrev pub cells_from : ℕ
  cells_from = counts_from + s.tokens + 7

  -- the first of the rows, of four words each: claim, handle, token, target
  abbrev pub rows_from : ℕ
  rows_from = cells_from + s.sites

  -- the i-th word of a row
  abbrev pub row_word_at : ℕ → ℕ → ℕ
  row_word_at row i = rows_from + (4 * row + i)

  abbrev pub buckets_from : ℕ
  buckets_from = rows_from + 4 * s.rows

  -- the first of the handle words, hosts first, then 64 per caller
  abbrev pub handles_from : ℕ
  handles_from = buckets_from + s.buckets

  abbrev pub handle_rows : ℕ
  handle_rows = s.hosts + 64 * s.callers

  -- the first of a caller's 64 handle rows
  abbrev pub first_row : ℕ → ℕ
  first_row caller = s.hosts + 64 * caller

  abbrev pub region_at : ℕ
  region_at = handles_from + handle_rows

  -- the first of the cast rows, of three words each: version, source, cast word
  abbrev pub casts_from : ℕ
  casts_from = region_at + 1

  -- region j has 128 * 2^j rows
  unfoldable pub cast_rows : ℕ
  cast_rows = 128 * (2 ^ s.regions - 1)

  abbrev pub word_count : ℕ
  word_count = casts_from + 3 * cast_rows

  -- the number of the word at an index in memory: first the epoch, then the callers' epoch words, then the counters, and then the other words as they lie
  abbrev pub stated_number : ℕ → ℕ
  stated_number i =
      if nat_lt i counts_from then i / 8
      else if nat_lt i cells_from then i - counts_from + s.callers + 1
      else (i - cells_from + s.tokens + s.callers + 1)

  -- whose word the one at an index is; a word between is nobody's
  pub data Whose (i : ℕ) : Type 0 where
    the_epoch : i ≡ 0 → Whose i
    of_caller : (caller : ℕ) → caller < s.callers → i ≡ pin_at caller → Whose i
    of_token : (token : ℕ) → token < s.tokens → i ≡ counts_from + token → Whose i
    of_others : cells_from ≤ i → i < word_count → Whose i

-- a cast row's number over all regions
unfoldable pub cast_row : ℕ → ℕ → ℕ
cast_row region row = 128 * (2 ^ region - 1) + row
