-- The zones of a table after a write, and what a word of a zone is.
use Rattle.std.proofs.Common.{◌≡◌, ℕ, zero, suc, ◌+◌, ◌-◌, ◌*◌, ◌<◌, ◌≤◌, List, ◌∷◌, length, get_or, set, take, drop, ap, sym, refl, ◌∙◌, arith, length-take, length-drop, get_or-set_other, get_or-set_same}
use Rattle.std.proofs.lemmas.List.{take-set-le, drop-set-lt, drop-set-add, get_or-take, get_or-drop}
use Rattle.std.proofs.Math.Seq.{take-set-lt}
use Rattle.vsd_rule.specs.declared.sizes.Sizes.{Sizes}
use Rattle.vsd_rule.specs.Layout.{counts_from, cells_from, rows_from, buckets_from, handles_from, handle_rows, region_at, casts_from, cast_rows, word_count, pin_at}
use Rattle.vsd_rule.specs.Zones.{window, every_eighth, zones}

pub window_here : (a n i x : ℕ) (words : List ℕ) → i < n → window a n (set words (a + i) x) ≡ set (window a n words) i x
unfolding window
window_here a n i x words h = ap (take n) (drop-set-add a words i x) ∙ take-set-lt n (drop a words) i x h

-- a write before the window
pub window_after : (a n j x : ℕ) (words : List ℕ) → j < a → window a n (set words j x) ≡ window a n words
unfolding window
window_after a n j x words h = ap (take n) (drop-set-lt a words j x h)

-- a write past it
pub window_before : (a n j x : ℕ) (words : List ℕ) → a + n ≤ j → window a n (set words j x) ≡ window a n words
unfolding window
window_before a n j x words h =
    let i : ℕ = j - a in
    let e : a + i ≡ j = omega arith in
    ap (λ (z : ℕ). window a n (set words z x)) (sym e) ∙ (ap (take n) (drop-set-add a words i x) ∙ take-set-le n (drop a words) i x (omega arith))

pub window_at : (a n i : ℕ) (words : List ℕ) → i < n → get_or (window a n words) i 0 ≡ get_or words (a + i) 0
unfolding window
window_at a n i words h = get_or-take n (drop a words) i 0 h ∙ get_or-drop a words i 0

pub window_length : (a n : ℕ) (words : List ℕ) → a + n ≤ length words → length (window a n words) ≡ n
unfolding window
window_length a n words h = omega (arith, length-take n (drop a words), length-drop a words)

-- a write before them
pub eighths_after : (a n j x : ℕ) (words : List ℕ) → j < a → every_eighth a n (set words j x) ≡ every_eighth a n words
unfolding every_eighth
eighths_after a zero j x words h = refl
eighths_after a (suc n) j x words h =
    let first : get_or (set words j x) a 0 ≡ get_or words a 0 = get_or-set_other words j a x 0 (λ e. omega arith) in
    let others = eighths_after (a + 8) n j x words (omega arith) in
    λ c. first c ∷ others c

-- a write past them
pub eighths_before : (a n j x : ℕ) (words : List ℕ) → a + 8 * n ≤ j → every_eighth a n (set words j x) ≡ every_eighth a n words
unfolding every_eighth
eighths_before a zero j x words h = refl
eighths_before a (suc n) j x words h =
    let first : get_or (set words j x) a 0 ≡ get_or words a 0 = get_or-set_other words j a x 0 (λ e. omega arith) in
    let others = eighths_before (a + 8) n j x words (omega arith) in
    λ c. first c ∷ others c

pub eighths_here : (a n i x : ℕ) (words : List ℕ) → i < n → a + 8 * n ≤ length words + 7 → every_eighth a n (set words (a + 8 * i) x) ≡ set (every_eighth a n words) i x
unfolding every_eighth
eighths_here a zero i x words h long = absurd (omega arith)
eighths_here a (suc n) zero x words h long =
    let here : a + 8 * zero ≡ a = omega arith in
    let first : get_or (set words (a + 8 * zero) x) a 0 ≡ x = ap (λ (z : ℕ). get_or (set words z x) a 0) here ∙ get_or-set_same words a x 0 (omega arith) in
    let others : every_eighth (a + 8) n (set words (a + 8 * zero) x) ≡ every_eighth (a + 8) n words = eighths_after (a + 8) n (a + 8 * zero) x words (omega arith) in
    λ c. first c ∷ others c
eighths_here a (suc n) (suc i) x words h long =
    let e : a + 8 * suc i ≡ a + 8 + 8 * i = omega arith in
    let first : get_or (set words (a + 8 * suc i) x) a 0 ≡ get_or words a 0 = get_or-set_other words (a + 8 * suc i) a x 0 (λ e. omega arith) in
    let others = ap (λ (z : ℕ). every_eighth (a + 8) n (set words z x)) e ∙ eighths_here (a + 8) n i x words (omega arith) (omega arith) in
    λ c. first c ∷ others c

pub eighths_length : (a n : ℕ) (words : List ℕ) → length (every_eighth a n words) ≡ n
unfolding every_eighth
eighths_length a zero words = refl
eighths_length a (suc n) words = ap suc (eighths_length (a + 8) n words) ∙ omega arith

pub eighth_at : (a n i : ℕ) (words : List ℕ) → i < n → get_or (every_eighth a n words) i 0 ≡ get_or words (a + 8 * i) 0
unfolding every_eighth
eighth_at a zero i words h = absurd (omega arith)
eighth_at a (suc n) zero words h = ap (λ (z : ℕ). get_or words z 0) (omega arith)
eighth_at a (suc n) (suc i) words h =
    let e : a + 8 + 8 * i ≡ a + 8 * suc i = omega arith in
    eighth_at (a + 8) n i words (omega arith) ∙ ap (λ (z : ℕ). get_or words z 0) e

module _ (s : Sizes) (words : List ℕ) where
  pub counts_length : length words ≡ word_count s → length (zones s words).counts ≡ s.tokens
  unfolding zones
  counts_length sized = window_length (counts_from s) (s.tokens) words (omega arith)

  pub count_at : (token : ℕ) → token < s.tokens → get_or (zones s words).counts token 0 ≡ get_or words (counts_from s + token) 0
  unfolding zones
  count_at token h = window_at (counts_from s) (s.tokens) token words h

  pub cells_length : length words ≡ word_count s → length (zones s words).cells ≡ s.sites
  unfolding zones
  cells_length sized = window_length (cells_from s) (s.sites) words (omega arith)

  pub cell_at : (site : ℕ) → site < s.sites → get_or (zones s words).cells site 0 ≡ get_or words (cells_from s + site) 0
  unfolding zones
  cell_at site h = window_at (cells_from s) (s.sites) site words h

  pub rows_length : length words ≡ word_count s → length (zones s words).rows ≡ 4 * s.rows
  unfolding zones
  rows_length sized = window_length (rows_from s) (4 * s.rows) words (omega arith)

  pub row_at : (i : ℕ) → i < 4 * s.rows → get_or (zones s words).rows i 0 ≡ get_or words (rows_from s + i) 0
  unfolding zones
  row_at i h = window_at (rows_from s) (4 * s.rows) i words h

  pub buckets_length : length words ≡ word_count s → length (zones s words).buckets ≡ s.buckets
  unfolding zones
  buckets_length sized = window_length (buckets_from s) (s.buckets) words (omega arith)

  pub bucket_at : (bucket : ℕ) → bucket < s.buckets → get_or (zones s words).buckets bucket 0 ≡ get_or words (buckets_from s + bucket) 0
  unfolding zones
  bucket_at bucket h = window_at (buckets_from s) (s.buckets) bucket words h

  pub handles_length : length words ≡ word_count s → length (zones s words).handles ≡ handle_rows s
  unfolding zones
  handles_length sized = window_length (handles_from s) (handle_rows s) words (omega arith)

  pub handle_at : (row : ℕ) → row < handle_rows s → get_or (zones s words).handles row 0 ≡ get_or words (handles_from s + row) 0
  unfolding zones
  handle_at row h = window_at (handles_from s) (handle_rows s) row words h

  pub casts_length : length words ≡ word_count s → length (zones s words).casts ≡ 3 * cast_rows s
  unfolding zones
  casts_length sized = window_length (casts_from s) (3 * cast_rows s) words (omega arith)

  pub cast_at : (i : ℕ) → i < 3 * cast_rows s → get_or (zones s words).casts i 0 ≡ get_or words (casts_from s + i) 0
  unfolding zones
  cast_at i h = window_at (casts_from s) (3 * cast_rows s) i words h

  pub pins_length : length (zones s words).pins ≡ s.callers
  unfolding zones
  pins_length = eighths_length 8 s.callers words

  pub pin_word : (caller : ℕ) → caller < s.callers → get_or (zones s words).pins caller 0 ≡ get_or words (pin_at caller) 0
  unfolding zones
  pin_word caller h = eighth_at 8 s.callers caller words h

  pub epoch_word : (zones s words).epoch ≡ get_or words 0 0
  unfolding zones
  epoch_word = refl

  pub region_word : (zones s words).region ≡ get_or words (region_at s) 0
  unfolding zones
  region_word = refl

  -- ---- a write of one kind of word changes its zone alone

  pub epoch_written : (x : ℕ) → 0 < length words → zones s (set words 0 x) ≡ record (zones s words) { epoch = x }
  unfolding zones
  epoch_written x long =
      let j : ℕ = 0 in
      let epoch : get_or (set words 0 x) 0 0 ≡ x = get_or-set_same words 0 x 0 (omega arith) in
      let region : get_or (set words j x) (region_at s) 0 ≡ get_or words (region_at s) 0 = get_or-set_other words j (region_at s) x 0 (λ e. omega arith) in
      let pins = eighths_after 8 s.callers j x words (omega arith) in
      let counts = window_after (counts_from s) s.tokens j x words (omega arith) in
      let cells = window_after (cells_from s) s.sites j x words (omega arith) in
      let rows = window_after (rows_from s) (4 * s.rows) j x words (omega arith) in
      let buckets = window_after (buckets_from s) s.buckets j x words (omega arith) in
      let handles = window_after (handles_from s) (handle_rows s) j x words (omega arith) in
      let casts = window_after (casts_from s) (3 * cast_rows s) j x words (omega arith) in
      λ c. record { epoch = epoch c; pins = pins c; counts = counts c; cells = cells c; rows = rows c; buckets = buckets c; handles = handles c; region = region c; casts = casts c }

  pub pin_written : (caller x : ℕ) → caller < s.callers → length words ≡ word_count s → zones s (set words (pin_at caller) x) ≡ record (zones s words) { pins = set (zones s words).pins caller x }
  unfolding zones
  pin_written caller x h sized =
      let j : ℕ = pin_at caller in
      let epoch : get_or (set words j x) 0 0 ≡ get_or words 0 0 = get_or-set_other words j 0 x 0 (λ e. omega arith) in
      let region : get_or (set words j x) (region_at s) 0 ≡ get_or words (region_at s) 0 = get_or-set_other words j (region_at s) x 0 (λ e. omega arith) in
      let pins = eighths_here 8 s.callers caller x words h (omega arith) in
      let counts = window_after (counts_from s) s.tokens j x words (omega arith) in
      let cells = window_after (cells_from s) s.sites j x words (omega arith) in
      let rows = window_after (rows_from s) (4 * s.rows) j x words (omega arith) in
      let buckets = window_after (buckets_from s) s.buckets j x words (omega arith) in
      let handles = window_after (handles_from s) (handle_rows s) j x words (omega arith) in
      let casts = window_after (casts_from s) (3 * cast_rows s) j x words (omega arith) in
      λ c. record { epoch = epoch c; pins = pins c; counts = counts c; cells = cells c; rows = rows c; buckets = buckets c; handles = handles c; region = region c; casts = casts c }

  pub count_written : (token x : ℕ) → token < s.tokens → zones s (set words (counts_from s + token) x) ≡ record (zones s words) { counts = set (zones s words).counts token x }
  unfolding zones
  count_written token x h =
      let j : ℕ = counts_from s + token in
      let epoch : get_or (set words j x) 0 0 ≡ get_or words 0 0 = get_or-set_other words j 0 x 0 (λ e. omega arith) in
      let region : get_or (set words j x) (region_at s) 0 ≡ get_or words (region_at s) 0 = get_or-set_other words j (region_at s) x 0 (λ e. omega arith) in
      let pins = eighths_before 8 s.callers j x words (omega arith) in
      let counts = window_here (counts_from s) s.tokens token x words h in
      let cells = window_after (cells_from s) s.sites j x words (omega arith) in
      let rows = window_after (rows_from s) (4 * s.rows) j x words (omega arith) in
      let buckets = window_after (buckets_from s) s.buckets j x words (omega arith) in
      let handles = window_after (handles_from s) (handle_rows s) j x words (omega arith) in
      let casts = window_after (casts_from s) (3 * cast_rows s) j x words (omega arith) in
      λ c. record { epoch = epoch c; pins = pins c; counts = counts c; cells = cells c; rows = rows c; buckets = buckets c; handles = handles c; region = region c; casts = casts c }

  pub cell_written : (site x : ℕ) → site < s.sites → zones s (set words (cells_from s + site) x) ≡ record (zones s words) { cells = set (zones s words).cells site x }
  unfolding zones
  cell_written site x h =
      let j : ℕ = cells_from s + site in
      let epoch : get_or (set words j x) 0 0 ≡ get_or words 0 0 = get_or-set_other words j 0 x 0 (λ e. omega arith) in
      let region : get_or (set words j x) (region_at s) 0 ≡ get_or words (region_at s) 0 = get_or-set_other words j (region_at s) x 0 (λ e. omega arith) in
      let pins = eighths_before 8 s.callers j x words (omega arith) in
      let counts = window_before (counts_from s) s.tokens j x words (omega arith) in
      let cells = window_here (cells_from s) s.sites site x words h in
      let rows = window_after (rows_from s) (4 * s.rows) j x words (omega arith) in
      let buckets = window_after (buckets_from s) s.buckets j x words (omega arith) in
      let handles = window_after (handles_from s) (handle_rows s) j x words (omega arith) in
      let casts = window_after (casts_from s) (3 * cast_rows s) j x words (omega arith) in
      λ c. record { epoch = epoch c; pins = pins c; counts = counts c; cells = cells c; rows = rows c; buckets = buckets c; handles = handles c; region = region c; casts = casts c }

  pub row_written : (i x : ℕ) → i < 4 * s.rows → zones s (set words (rows_from s + i) x) ≡ record (zones s words) { rows = set (zones s words).rows i x }
  unfolding zones
  row_written i x h =
      let j : ℕ = rows_from s + i in
      let epoch : get_or (set words j x) 0 0 ≡ get_or words 0 0 = get_or-set_other words j 0 x 0 (λ e. omega arith) in
      let region : get_or (set words j x) (region_at s) 0 ≡ get_or words (region_at s) 0 = get_or-set_other words j (region_at s) x 0 (λ e. omega arith) in
      let pins = eighths_before 8 s.callers j x words (omega arith) in
      let counts = window_before (counts_from s) s.tokens j x words (omega arith) in
      let cells = window_before (cells_from s) s.sites j x words (omega arith) in
      let rows = window_here (rows_from s) (4 * s.rows) i x words h in
      let buckets = window_after (buckets_from s) s.buckets j x words (omega arith) in
      let handles = window_after (handles_from s) (handle_rows s) j x words (omega arith) in
      let casts = window_after (casts_from s) (3 * cast_rows s) j x words (omega arith) in
      λ c. record { epoch = epoch c; pins = pins c; counts = counts c; cells = cells c; rows = rows c; buckets = buckets c; handles = handles c; region = region c; casts = casts c }

  pub bucket_written : (bucket x : ℕ) → bucket < s.buckets → zones s (set words (buckets_from s + bucket) x) ≡ record (zones s words) { buckets = set (zones s words).buckets bucket x }
  unfolding zones
  bucket_written bucket x h =
      let j : ℕ = buckets_from s + bucket in
      let epoch : get_or (set words j x) 0 0 ≡ get_or words 0 0 = get_or-set_other words j 0 x 0 (λ e. omega arith) in
      let region : get_or (set words j x) (region_at s) 0 ≡ get_or words (region_at s) 0 = get_or-set_other words j (region_at s) x 0 (λ e. omega arith) in
      let pins = eighths_before 8 s.callers j x words (omega arith) in
      let counts = window_before (counts_from s) s.tokens j x words (omega arith) in
      let cells = window_before (cells_from s) s.sites j x words (omega arith) in
      let rows = window_before (rows_from s) (4 * s.rows) j x words (omega arith) in
      let buckets = window_here (buckets_from s) s.buckets bucket x words h in
      let handles = window_after (handles_from s) (handle_rows s) j x words (omega arith) in
      let casts = window_after (casts_from s) (3 * cast_rows s) j x words (omega arith) in
      λ c. record { epoch = epoch c; pins = pins c; counts = counts c; cells = cells c; rows = rows c; buckets = buckets c; handles = handles c; region = region c; casts = casts c }

  pub handle_written : (row x : ℕ) → row < handle_rows s → zones s (set words (handles_from s + row) x) ≡ record (zones s words) { handles = set (zones s words).handles row x }
  unfolding zones
  handle_written row x h =
      let j : ℕ = handles_from s + row in
      let epoch : get_or (set words j x) 0 0 ≡ get_or words 0 0 = get_or-set_other words j 0 x 0 (λ e. omega arith) in
      let region : get_or (set words j x) (region_at s) 0 ≡ get_or words (region_at s) 0 = get_or-set_other words j (region_at s) x 0 (λ e. omega arith) in
      let pins = eighths_before 8 s.callers j x words (omega arith) in
      let counts = window_before (counts_from s) s.tokens j x words (omega arith) in
      let cells = window_before (cells_from s) s.sites j x words (omega arith) in
      let rows = window_before (rows_from s) (4 * s.rows) j x words (omega arith) in
      let buckets = window_before (buckets_from s) s.buckets j x words (omega arith) in
      let handles = window_here (handles_from s) (handle_rows s) row x words h in
      let casts = window_after (casts_from s) (3 * cast_rows s) j x words (omega arith) in
      λ c. record { epoch = epoch c; pins = pins c; counts = counts c; cells = cells c; rows = rows c; buckets = buckets c; handles = handles c; region = region c; casts = casts c }

  pub region_written : (x : ℕ) → length words ≡ word_count s → zones s (set words (region_at s) x) ≡ record (zones s words) { region = x }
  unfolding zones
  region_written x sized =
      let j : ℕ = region_at s in
      let epoch : get_or (set words j x) 0 0 ≡ get_or words 0 0 = get_or-set_other words j 0 x 0 (λ e. omega arith) in
      let region : get_or (set words (region_at s) x) (region_at s) 0 ≡ x = get_or-set_same words (region_at s) x 0 (omega arith) in
      let pins = eighths_before 8 s.callers j x words (omega arith) in
      let counts = window_before (counts_from s) s.tokens j x words (omega arith) in
      let cells = window_before (cells_from s) s.sites j x words (omega arith) in
      let rows = window_before (rows_from s) (4 * s.rows) j x words (omega arith) in
      let buckets = window_before (buckets_from s) s.buckets j x words (omega arith) in
      let handles = window_before (handles_from s) (handle_rows s) j x words (omega arith) in
      let casts = window_after (casts_from s) (3 * cast_rows s) j x words (omega arith) in
      λ c. record { epoch = epoch c; pins = pins c; counts = counts c; cells = cells c; rows = rows c; buckets = buckets c; handles = handles c; region = region c; casts = casts c }

  pub cast_written : (i x : ℕ) → i < 3 * cast_rows s → zones s (set words (casts_from s + i) x) ≡ record (zones s words) { casts = set (zones s words).casts i x }
  unfolding zones
  cast_written i x h =
      let j : ℕ = casts_from s + i in
      let epoch : get_or (set words j x) 0 0 ≡ get_or words 0 0 = get_or-set_other words j 0 x 0 (λ e. omega arith) in
      let region : get_or (set words j x) (region_at s) 0 ≡ get_or words (region_at s) 0 = get_or-set_other words j (region_at s) x 0 (λ e. omega arith) in
      let pins = eighths_before 8 s.callers j x words (omega arith) in
      let counts = window_before (counts_from s) s.tokens j x words (omega arith) in
      let cells = window_before (cells_from s) s.sites j x words (omega arith) in
      let rows = window_before (rows_from s) (4 * s.rows) j x words (omega arith) in
      let buckets = window_before (buckets_from s) s.buckets j x words (omega arith) in
      let handles = window_before (handles_from s) (handle_rows s) j x words (omega arith) in
      let casts = window_here (casts_from s) (3 * cast_rows s) i x words h in
      λ c. record { epoch = epoch c; pins = pins c; counts = counts c; cells = cells c; rows = rows c; buckets = buckets c; handles = handles c; region = region c; casts = casts c }
