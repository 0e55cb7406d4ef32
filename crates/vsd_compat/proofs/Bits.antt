-- Single bits of the words of a matrix.
use Rattle.std.proofs.Common.{◌≡◌, ℕ, ◌+◌, ◌*◌, ◌/◌, ◌%◌, ◌^◌, ◌<◌, ◌≤◌, ◌≢◌, ◌⊎◌, inl, inr, List, length, get_or, set, bit_or, sym, ap, ◌∙◌, subst, arith}
use Rattle.std.specs.Int.{bit_at}
use Rattle.std.proofs.lemmas.Bool.{cases_order}
use Rattle.std.proofs.lemmas.List.{get_or-set_same, get_or-set_other}
use Rattle.std.proofs.lemmas.Nat.{div_below, mul-add-lt, same_from_place}
use Rattle.std.proofs.lemmas.Nat.Bits.{bit_at_or, bit_at-lt, bit_at-pow_same, bit_at-pow_other}
use Rattle.std.proofs.Math.Nat.{one-mul, mod-eq_of_lt}
use Rattle.std.proofs.Math.Pow.{pow-lt}
use Rattle.vsd_compat.specs.Matrices.{Bits, IsSet}
use Rattle.vsd_compat.specs.Moving.{Adds}

-- a bit of a word is set
abbrev pub Bit : List ℕ → ℕ → ℕ → Type 0
Bit ws place k = bit_at (get_or ws place 0) k ≡ 1

or_left : (a b k : ℕ) → bit_at a k ≡ 1 → bit_at (bit_or a b) k ≡ 1
or_left a b k h = bit_at_or a b k ∙ omega (arith, h, bit_at-lt b k)

or_right : (a b k : ℕ) → bit_at b k ≡ 1 → bit_at (bit_or a b) k ≡ 1
or_right a b k h = bit_at_or a b k ∙ omega (arith, h, bit_at-lt a k)

or_cases : (a b k : ℕ) → bit_at (bit_or a b) k ≡ 1 → (bit_at a k ≡ 1) ⊎ (bit_at b k ≡ 1)
or_cases a b k h =
    elim (cases_order (bit_at a k) 1) [
      | inl one ↦ inl one
      | inr other ↦ inr (omega (arith, sym (bit_at_or a b k) ∙ h, bit_at-lt a k, bit_at-lt b k, not_one other))
    ]
  where
    not_one : ((bit_at a k < 1) ⊎ (1 < bit_at a k)) → bit_at a k ≡ 0
    not_one (inl low) = omega arith
    not_one (inr high) = absurd (omega (arith, bit_at-lt a k, high))

-- ---- bits are set in one word

module _ (ws : List ℕ) (place bits : ℕ) (within : place < length ws) where
  abbrev After : List ℕ
  After = set ws place (bit_or (get_or ws place 0) bits)

  here : get_or After place 0 ≡ bit_or (get_or ws place 0) bits
  here = get_or-set_same ws place (bit_or (get_or ws place 0) bits) 0 within

  there : (q : ℕ) → (q ≡ place) ⊎ (q ≢ place)
  there q = elim (cases_order q place) [ inl same ↦ inl same | inr other ↦ inr (λ e. elim other [ inl low ↦ omega arith | inr high ↦ omega arith ]) ]

  pub put-kept : (q k : ℕ) → Bit ws q k → Bit After q k
  put-kept q k h =
      elim (there q) [
        | inl same ↦ subst (λ p. Bit After p k) (sym same) (ap (λ w. bit_at w k) here ∙ or_left (get_or ws place 0) bits k (subst (λ p. Bit ws p k) same h))
        | inr other ↦ ap (λ w. bit_at w k) (get_or-set_other ws place q (bit_or (get_or ws place 0) bits) 0 other) ∙ h
      ]

  pub put-added : (k : ℕ) → bit_at bits k ≡ 1 → Bit After place k
  put-added k h = ap (λ w. bit_at w k) here ∙ or_right (get_or ws place 0) bits k h

  pub put-only : (q k : ℕ) → Bit After q k → Bit ws q k ⊎ ((q ≡ place) × (bit_at bits k ≡ 1))
  put-only q k h =
      elim (there q) [
        | inl same ↦ elim (or_cases (get_or ws place 0) bits k (sym (ap (λ w. bit_at w k) here) ∙ subst (λ p. Bit After p k) same h)) [
          | inl old ↦ inl (subst (λ p. Bit ws p k) (sym same) old)
          | inr new ↦ inr (same, new)
        ]
        | inr other ↦ inl (sym (ap (λ w. bit_at w k) (get_or-set_other ws place q (bit_or (get_or ws place 0) bits) 0 other)) ∙ h)
      ]

-- ---- the place of a bit

-- the word of a number lies in its row
pub word-within : (width count u : ℕ) → count ≤ 64 * width → u < count → u / 64 < width
word-within width count u wide within = div_below u 64 width (omega arith) (omega arith)

pub place-within : (width count t u : ℕ) → count ≤ 64 * width → t < count → u < count → t * width + u / 64 < count * width
place-within width count t u wide first second =
    omega (arith, mul-add-lt t width (u / 64) count first (word-within width count u wide second))

-- a number by its word and its bit there
pub number_from : (j u : ℕ) → j / 64 ≡ u / 64 → j % 64 ≡ u % 64 → j ≡ u
number_from j u word bit = omega arith

-- ---- what a matrix gains

shifted : (k : ℕ) → k < 64 → 1 * 2 ^ k % 2 ^ 64 ≡ 2 ^ k
shifted k within = ap (λ n. n % 2 ^ 64) (one-mul (2 ^ k)) ∙ mod-eq_of_lt (pow-lt within)

module _ (width count : ℕ) (ws : List ℕ) (wide : count ≤ 64 * width) (long : length ws ≡ count * width) where
  module _ (t u : ℕ) (first : t < count) (second : u < count) where
    abbrev Here : ℕ
    Here = t * width + u / 64

    abbrev WithBit : List ℕ
    WithBit = set ws Here (bit_or (get_or ws Here 0) (1 * 2 ^ (u % 64) % 2 ^ 64))

    pub set-adds : Adds count (record { width = width; words = ws }) (record { width = width; words = WithBit }) (λ i j. (i ≡ t) × (j ≡ u))
    set-adds =
        let small : u % 64 < 64 = omega arith in
        let within : Here < length ws = omega (arith, long, place-within width count t u wide first second) in
        let bits = 1 * 2 ^ (u % 64) % 2 ^ 64 in
        record {
          added = λ i j _ _ these.
              let one : bit_at bits (u % 64) ≡ 1 = ap (λ n. bit_at n (u % 64)) (shifted (u % 64) small) ∙ bit_at-pow_same (u % 64) in
              let there = put-added ws Here bits within (u % 64) one in
              subst (λ n. Bit WithBit (n * width + j / 64) (j % 64)) (sym these.0) (subst (λ n. Bit WithBit (t * width + n / 64) (n % 64)) (sym these.1) there);
          only = λ i j i_in j_in h. elim (put-only ws Here bits within (i * width + j / 64) (j % 64) h) [
            | inl old ↦ inl old
            | inr new ↦
                let place = same_from_place i (j / 64) t (u / 64) width (word-within width count j wide j_in) (word-within width count u wide second) new.0 in
                inr (place.0, number_from j u place.1 (only_bit (u % 64) (j % 64) small new.1))
          ];
        }
      where
        only_bit : (k b : ℕ) → k < 64 → bit_at (1 * 2 ^ k % 2 ^ 64) b ≡ 1 → b ≡ k
        only_bit k b small h =
            elim (cases_order b k) [
              | inl same ↦ same
              | inr other ↦
                  let apart : b ≢ k = λ e. elim other [ inl low ↦ omega arith | inr high ↦ omega arith ] in
                  let none = sym h ∙ ap (λ n. bit_at n b) (shifted k small) ∙ bit_at-pow_other k b apart in
                  absurd cc
            ]

  -- a row with the bits of another, a word at a time
  module _ (new : List ℕ) (to from : ℕ) (first : to < count) (added : (j b : ℕ) → j < width → Bit ws (from * width + j) b → Bit new (to * width + j) b) (only : (q b : ℕ) → Bit new q b → Bit ws q b ⊎ ((j : ℕ) × (j < width) × (q ≡ to * width + j) × Bit ws (from * width + j) b)) where
    pub absorb-adds : Adds count (record { width = width; words = ws }) (record { width = width; words = new }) (λ i j. (i ≡ to) × IsSet (record { width = width; words = ws }) from j)
    absorb-adds = record {
      added = λ i j _ j_in these. subst (λ n. Bit new (n * width + j / 64) (j % 64)) (sym these.0) (added (j / 64) (j % 64) (word-within width count j wide j_in) these.1);
      only = λ i j i_in j_in h. elim (only (i * width + j / 64) (j % 64) h) [
        | inl old ↦ inl old
        | inr w ↦
            let place = same_from_place i (j / 64) to w.0 width (word-within width count j wide j_in) w.1 w.2 in
            inr (place.0, subst (λ n. Bit ws (from * width + n) (j % 64)) (sym place.1) w.3)
      ];
    }

-- one word more of a row has the bits of the other
module _ (ws now : List ℕ) (width to from k : ℕ) (within : to * width + k < length now) (k_in : k < width) where
  abbrev Next : List ℕ
  Next = set now (to * width + k) (bit_or (get_or now (to * width + k) 0) (get_or now (from * width + k) 0))

  module _ (kept : (q b : ℕ) → Bit ws q b → Bit now q b) where
    pub next-kept : (q b : ℕ) → Bit ws q b → Bit Next q b
    next-kept q b h = put-kept now (to * width + k) (get_or now (from * width + k) 0) within q b (kept q b h)

    pub next-added : ((j b : ℕ) → j < k → Bit ws (from * width + j) b → Bit now (to * width + j) b) → (j b : ℕ) → j < k + 1 → Bit ws (from * width + j) b → Bit Next (to * width + j) b
    next-added added j b below h =
        let bits = get_or now (from * width + k) 0 in
        elim (cases_order j k) [
          | inl same ↦ subst (λ n. Bit Next (to * width + n) b) (sym same) (put-added now (to * width + k) bits within b (kept (from * width + k) b (subst (λ n. Bit ws (from * width + n) b) same h)))
          | inr other ↦
              let low : j < k = elim other [ inl less ↦ less | inr more ↦ absurd (omega arith) ] in
              put-kept now (to * width + k) bits within (to * width + j) b (added j b low h)
        ]

  pub next-only : ((q b : ℕ) → Bit now q b → Bit ws q b ⊎ ((j : ℕ) × (j < width) × (q ≡ to * width + j) × Bit ws (from * width + j) b)) → (q b : ℕ) → Bit Next q b → Bit ws q b ⊎ ((j : ℕ) × (j < width) × (q ≡ to * width + j) × Bit ws (from * width + j) b)
  next-only only q b h =
      let bits = get_or now (from * width + k) 0 in
      elim (put-only now (to * width + k) bits within q b h) [
        | inl old ↦ only q b old
        | inr new ↦ elim (only (from * width + k) b new.1) [
          | inl there ↦ inr (k, k_in, new.0, there)
          | inr w ↦
              let place = same_from_place from k to w.0 width k_in w.1 w.2 in
              inr (k, k_in, new.0, subst (λ n. Bit ws (from * width + n) b) (sym place.1) w.3)
        ]
      ]

pub same_bits : (w v : ℕ) (xs ys : List ℕ) → w ≡ v → xs ≡ ys → (let b : Bits = record { width = w; words = xs } in b) ≡ record { width = v; words = ys }
same_bits w v xs ys e f = ap (λ n. let b : Bits = record { width = n; words = xs } in b) e ∙ ap (λ l. let b : Bits = record { width = v; words = l } in b) f
