-- Where words lie and how they are numbered is one to one, and ties the numbers of callers, cast regions and printed words to the zones.
use Rattle.std.proofs.Common.{◌≡◌, ℕ, suc, ◌+◌, ◌-◌, ◌*◌, ◌/◌, ◌<◌, ◌≤◌, ◌^◌, Bool, cond, ap, sym, ◌∙◌, ⊎_elim, arith}
use Rattle.std.specs.Prelude.{nat_lt}
use Rattle.std.proofs.lemmas.Bool.{cases_lt, lt-ltb, le-ltb}
use Rattle.std.proofs.lemmas.Nat.{pow_pos}
use Rattle.std.proofs.Math.Nat.{pow-le-pow_right, two-pow-succ}
use Rattle.vsd_rule.specs.declared.sizes.Sizes.{Sizes}
use Rattle.vsd_rule.specs.Layout.{pin_at, counts_from, cells_from, stated_number, Whose, the_epoch, of_caller, of_token, of_others, cast_rows, cast_row}

-- ---- the stated numbers

-- the first of three, below m, or the second, from there to below n, or the third
abbrev part : ℕ → ℕ → ℕ → ℕ → ℕ → ℕ → ℕ
part i m n a b c = cond (nat_lt i m) a (cond (nat_lt i n) b c)

part_low : (i m n a b c : ℕ) → i < m → part i m n a b c ≡ a
part_low i m n a b c low = ap (λ (t : Bool). cond t a (cond (nat_lt i n) b c)) (lt-ltb i m low)

part_middle : (i m n a b c : ℕ) → m ≤ i → i < n → part i m n a b c ≡ b
part_middle i m n a b c past low = ap (λ (t : Bool). cond t a (cond (nat_lt i n) b c)) (le-ltb i m past) ∙ ap (λ (t : Bool). cond t b c) (lt-ltb i n low)

part_high : (i m n a b c : ℕ) → m ≤ i → n ≤ i → part i m n a b c ≡ c
part_high i m n a b c past far = ap (λ (t : Bool). cond t a (cond (nat_lt i n) b c)) (le-ltb i m past) ∙ ap (λ (t : Bool). cond t b c) (le-ltb i n far)

module _ (s : Sizes) where
  number_low : (i : ℕ) → i < counts_from s → stated_number s i ≡ i / 8
  number_low i low = part_low i (counts_from s) (cells_from s) (i / 8) (i - counts_from s + s.callers + 1) (i - cells_from s + s.tokens + s.callers + 1) low

  number_middle : (i : ℕ) → counts_from s ≤ i → i < cells_from s → stated_number s i ≡ i - counts_from s + s.callers + 1
  number_middle i past low = part_middle i (counts_from s) (cells_from s) (i / 8) (i - counts_from s + s.callers + 1) (i - cells_from s + s.tokens + s.callers + 1) past low

  number_high : (i : ℕ) → cells_from s ≤ i → stated_number s i ≡ i - cells_from s + s.tokens + s.callers + 1
  number_high i past = part_high i (counts_from s) (cells_from s) (i / 8) (i - counts_from s + s.callers + 1) (i - cells_from s + s.tokens + s.callers + 1) (omega arith) past

  -- the epoch is the first, then come the callers' epoch words, the counters, and the others as they lie
  pub number_of_epoch : stated_number s 0 ≡ 0
  number_of_epoch = number_low 0 (omega arith) ∙ omega arith

  pub number_of_caller : (caller : ℕ) → caller < s.callers → stated_number s (pin_at caller) ≡ 1 + caller
  number_of_caller caller small = number_low (pin_at caller) (omega arith) ∙ omega arith

  pub number_of_token : (token : ℕ) → token < s.tokens → stated_number s (counts_from s + token) ≡ 1 + s.callers + token
  number_of_token token small = number_middle (counts_from s + token) (omega arith) (omega arith) ∙ omega arith

  pub number_of_others : (i : ℕ) → stated_number s (cells_from s + i) ≡ 1 + s.callers + s.tokens + i
  number_of_others i = number_high (cells_from s + i) (omega arith) ∙ omega arith

  -- a word's index, by its stated number
  abbrev index_by : ℕ → ℕ
  index_by n = part n (1 + s.callers) (1 + s.callers + s.tokens) (8 * n) (counts_from s + (n - (1 + s.callers))) (cells_from s + (n - (1 + s.callers + s.tokens)))

  index_low : (n : ℕ) → n < 1 + s.callers → index_by n ≡ 8 * n
  index_low n low = part_low n (1 + s.callers) (1 + s.callers + s.tokens) (8 * n) (counts_from s + (n - (1 + s.callers))) (cells_from s + (n - (1 + s.callers + s.tokens))) low

  index_middle : (n : ℕ) → 1 + s.callers ≤ n → n < 1 + s.callers + s.tokens → index_by n ≡ counts_from s + (n - (1 + s.callers))
  index_middle n past low = part_middle n (1 + s.callers) (1 + s.callers + s.tokens) (8 * n) (counts_from s + (n - (1 + s.callers))) (cells_from s + (n - (1 + s.callers + s.tokens))) past low

  index_high : (n : ℕ) → 1 + s.callers + s.tokens ≤ n → index_by n ≡ cells_from s + (n - (1 + s.callers + s.tokens))
  index_high n past = part_high n (1 + s.callers) (1 + s.callers + s.tokens) (8 * n) (counts_from s + (n - (1 + s.callers))) (cells_from s + (n - (1 + s.callers + s.tokens))) (omega arith) past

  index_again : (i : ℕ) → Whose s i → index_by (stated_number s i) ≡ i
  index_again i (the_epoch is) = let n : stated_number s i ≡ 0 = ap (stated_number s) is ∙ number_of_epoch in index_low (stated_number s i) (omega arith) ∙ omega arith
  index_again i (of_caller caller small is) =
      let n : stated_number s i ≡ 1 + caller = ap (stated_number s) is ∙ number_of_caller caller small in index_low (stated_number s i) (omega arith) ∙ omega arith
  index_again i (of_token token small is) =
      let n : stated_number s i ≡ 1 + s.callers + token = ap (stated_number s) is ∙ number_of_token token small in index_middle (stated_number s i) (omega arith) (omega arith) ∙ omega arith
  index_again i (of_others past within) =
      let e : cells_from s + (i - cells_from s) ≡ i = omega arith in
      let n : stated_number s i ≡ 1 + s.callers + s.tokens + (i - cells_from s) = ap (stated_number s) (sym e) ∙ number_of_others (i - cells_from s) in
      index_high (stated_number s i) (omega arith) ∙ omega arith

  -- two words that are somebody's have two numbers
  pub stated_number-one_to_one : (i j : ℕ) → Whose s i → Whose s j → stated_number s i ≡ stated_number s j → i ≡ j
  stated_number-one_to_one i j of_i of_j same = sym (index_again i of_i) ∙ (ap index_by same ∙ index_again j of_j)

-- ---- cast rows

doubled : (region : ℕ) → 2 ^ suc region ≡ 2 ^ region + 2 ^ region
doubled region = two-pow-succ region

-- the regions lie one after another, each with twice the rows of the one before
pub cast_row-first : (row : ℕ) → cast_row 0 row ≡ row
unfolding cast_row
cast_row-first row = omega arith

pub cast_row-next : (region row : ℕ) → cast_row (suc region) row ≡ cast_row region (128 * 2 ^ region + row)
unfolding cast_row
cast_row-next region row =
    let twice : 2 ^ suc region ≡ 2 ^ region + 2 ^ region = doubled region in
    let some_row : 0 < 2 ^ region = pow_pos region in
    omega arith

-- the first row past a region
past_region : (region other : ℕ) → region < other → cast_row region (128 * 2 ^ region) ≤ cast_row other 0
unfolding cast_row
past_region region other less =
    let twice : 2 ^ suc region ≡ 2 ^ region + 2 ^ region = doubled region in
    let grows : 2 ^ suc region ≤ 2 ^ other = pow-le-pow_right {n = 2} (omega arith) less in
    let some_row : 0 < 2 ^ region = pow_pos region in
    omega arith

pub cast_row-below : (s : Sizes) (region row : ℕ) → region < s.regions → row < 128 * 2 ^ region → cast_row region row < cast_rows s
unfolding cast_row cast_rows
cast_row-below s region row inside small = let past = past_region region s.regions inside in omega arith

pub cast_row-one_to_one : (region row other row' : ℕ) → row < 128 * 2 ^ region → row' < 128 * 2 ^ other → cast_row region row ≡ cast_row other row' → (region ≡ other) × (row ≡ row')
unfolding cast_row
cast_row-one_to_one region row other row' small small' same = ⊎_elim
    (λ (h : region < other). let past = past_region region other h in absurd (omega arith))
    (λ (h : other ≤ region). ⊎_elim
    (λ (g : other < region). let past = past_region other region g in absurd (omega arith))
    (λ (g : region ≤ other). let e : region ≡ other = omega arith in let p : 2 ^ region ≡ 2 ^ other = ap (λ (n : ℕ). 2 ^ n) e in (e, omega arith))
    (cases_lt other region))
    (cases_lt region other)
