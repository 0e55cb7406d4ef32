-- Packing is one to one on its ranges, and stays below a power of two.
use Rattle.std.proofs.Common.{◌≡◌, ℕ, ◌/◌, ◌%◌, ◌<◌, ◌^◌, Bool, true, false, nat_eq, ap, refl, ◌∙◌, arith}
use Rattle.std.proofs.lemmas.Bool.Decides.{nat_tests}
use Rattle.std.specs.Int.{from_bool}
use Rattle.vsd_words.specs.declared.handle.Handle.{Handle}
use Rattle.vsd_words.specs.declared.cell_word.CellWord.{CellWord}
use Rattle.vsd_words.specs.declared.cell_word.CellWord.TheVariants.{Lookup, Resolve, Dispatch}
use Rattle.vsd_words.specs.declared.handle_word.HandleWord.{HandleWord}
use Rattle.vsd_words.specs.declared.cast_word.CastWord.{CastWord}
use Rattle.vsd_words.specs.Handle.{HandleInRange, packed_handle, IsHandlePacking}
use Rattle.vsd_words.specs.CellWord.{CellWordInRange, packed_cell, IsCellPacking}
use Rattle.vsd_words.specs.HandleWord.{HandleWordInRange, packed_handle_word, IsHandleWordPacking}
use Rattle.vsd_words.specs.CastWord.{CastWordInRange, packed_cast, IsCastPacking}

-- ---- handles

handle_from_parts : (a b : Handle) → a.row ≡ b.row → a.generation ≡ b.generation → a ≡ b
handle_from_parts a b rows generations =
    let made : ℕ → ℕ → Handle = λ row generation. record { row = row; generation = generation } in
    let first : a ≡ made b.row a.generation = ap (λ row. made row a.generation) rows in
    first ∙ ap (made b.row) generations

pub packed_handle-below : (h : Handle) → HandleInRange h → packed_handle h < 2 ^ 47
unfolding packed_handle
packed_handle-below h in_range = omega arith

pub packed_handle-one_to_one : (a b : Handle) → HandleInRange a → HandleInRange b →
    packed_handle a ≡ packed_handle b → a ≡ b
unfolding packed_handle
packed_handle-one_to_one a b of_a of_b same = handle_from_parts a b (omega arith) (omega arith)

pub handle_packing-below : (word : ℕ) (h : Handle) → IsHandlePacking h word → word < 2 ^ 47
handle_packing-below word h p = omega (arith, packed_handle-below h p.in_range, p.packed)

pub handle_packing-one_to_one : (word : ℕ) (a b : Handle) →
    IsHandlePacking a word → IsHandlePacking b word → a ≡ b
handle_packing-one_to_one word a b of_a of_b =
    packed_handle-one_to_one a b of_a.in_range of_b.in_range (cc)

pub handle_of_word : (word : ℕ) → word < 2 ^ 47 →
    IsHandlePacking (record { row = word % 32768; generation = word / 32768 }) word
unfolding packed_handle
handle_of_word word small = record {
  in_range = record { row = omega arith; generation = omega arith };
  packed = omega arith;
}

-- ---- cells

pub packed_cell-below : (cell : CellWord) → CellWordInRange cell → packed_cell cell < 1026
packed_cell-below Lookup in_range = omega arith
packed_cell-below Resolve in_range = omega arith
packed_cell-below (Dispatch row) in_range = omega arith

pub packed_cell-one_to_one : (a b : CellWord) → packed_cell a ≡ packed_cell b → a ≡ b
packed_cell-one_to_one Lookup Lookup same = refl
packed_cell-one_to_one Lookup Resolve same = absurd (omega arith)
packed_cell-one_to_one Lookup (Dispatch row) same = absurd (omega arith)
packed_cell-one_to_one Resolve Lookup same = absurd (omega arith)
packed_cell-one_to_one Resolve Resolve same = refl
packed_cell-one_to_one Resolve (Dispatch row) same = absurd (omega arith)
packed_cell-one_to_one (Dispatch row) Lookup same = absurd (omega arith)
packed_cell-one_to_one (Dispatch row) Resolve same = absurd (omega arith)
packed_cell-one_to_one (Dispatch row) (Dispatch other) same = ap Dispatch (omega arith)

pub cell_packing-below : (word : ℕ) (cell : CellWord) → IsCellPacking cell word → word < 1026
cell_packing-below word cell p = omega (arith, packed_cell-below cell p.in_range, p.packed)

pub cell_packing-one_to_one : (word : ℕ) (a b : CellWord) →
    IsCellPacking a word → IsCellPacking b word → a ≡ b
cell_packing-one_to_one word a b of_a of_b = packed_cell-one_to_one a b (cc)

-- ---- flags

from_bool-below : (b : Bool) → from_bool b < 2
from_bool-below true = omega arith
from_bool-below false = omega arith

from_bool-one_to_one : (a b : Bool) → from_bool a ≡ from_bool b → a ≡ b
from_bool-one_to_one true true same = refl
from_bool-one_to_one true false same = absurd (omega arith)
from_bool-one_to_one false true same = absurd (omega arith)
from_bool-one_to_one false false same = refl

-- the flag that a remainder of 2 stands for
from_bool-test : (bit : ℕ) → bit < 2 → from_bool (nat_eq bit 1) ≡ bit
from_bool-test bit small = grind (arith, nat_tests)

-- ---- handle words

handle_word_from_parts : (a b : HandleWord) → a.generation ≡ b.generation → a.number ≡ b.number →
    a.immortal ≡ b.immortal → a.live ≡ b.live → a ≡ b
handle_word_from_parts a b generations numbers immortals lives =
    let made : ℕ → ℕ → Bool → Bool → HandleWord =
    λ generation number immortal live.
    record { generation = generation; number = number; immortal = immortal; live = live } in
    let first : a ≡ made b.generation a.number a.immortal a.live =
    ap (λ generation. made generation a.number a.immortal a.live) generations in
    let second : made b.generation a.number a.immortal a.live ≡ made b.generation b.number a.immortal a.live =
    ap (λ number. made b.generation number a.immortal a.live) numbers in
    let third : made b.generation b.number a.immortal a.live ≡ made b.generation b.number b.immortal a.live =
    ap (λ immortal. made b.generation b.number immortal a.live) immortals in
    first ∙ second ∙ third ∙ ap (made b.generation b.number b.immortal) lives

pub packed_handle_word-below : (w : HandleWord) → HandleWordInRange w → packed_handle_word w < 2 ^ 50
unfolding packed_handle_word
packed_handle_word-below w in_range = omega (arith, from_bool-below w.live, from_bool-below w.immortal)

pub packed_handle_word-one_to_one : (a b : HandleWord) → HandleWordInRange a → HandleWordInRange b →
    packed_handle_word a ≡ packed_handle_word b → a ≡ b
unfolding packed_handle_word
packed_handle_word-one_to_one a b of_a of_b same =
    let a_live : from_bool a.live < 2 = from_bool-below a.live in
    let b_live : from_bool b.live < 2 = from_bool-below b.live in
    let a_immortal : from_bool a.immortal < 2 = from_bool-below a.immortal in
    let b_immortal : from_bool b.immortal < 2 = from_bool-below b.immortal in
    handle_word_from_parts a b (omega arith) (omega arith)
    (from_bool-one_to_one a.immortal b.immortal (omega arith))
    (from_bool-one_to_one a.live b.live (omega arith))

pub handle_word_packing-below : (word : ℕ) (w : HandleWord) → IsHandleWordPacking w word → word < 2 ^ 50
handle_word_packing-below word w p = omega (arith, packed_handle_word-below w p.in_range, p.packed)

pub handle_word_packing-one_to_one : (word : ℕ) (a b : HandleWord) →
    IsHandleWordPacking a word → IsHandleWordPacking b word → a ≡ b
handle_word_packing-one_to_one word a b of_a of_b =
    packed_handle_word-one_to_one a b of_a.in_range of_b.in_range (cc)

pub handle_word_of_word : (word : ℕ) → word < 2 ^ 50 →
    IsHandleWordPacking
    (record {
      generation = word / 262144;
      number = word / 4 % 65536;
      immortal = nat_eq (word / 2 % 2) 1;
      live = nat_eq (word % 2) 1;
    })
    word
unfolding packed_handle_word
handle_word_of_word word small =
    let immortal : from_bool (nat_eq (word / 2 % 2) 1) ≡ word / 2 % 2 =
    from_bool-test (word / 2 % 2) (omega arith) in
    let live : from_bool (nat_eq (word % 2) 1) ≡ word % 2 = from_bool-test (word % 2) (omega arith) in
    record {
      in_range = record { generation = omega arith; number = omega arith };
      packed = omega arith;
    }

-- ---- cast words

cast_word_from_parts : (a b : CastWord) → a.target ≡ b.target → a.yes ≡ b.yes → a ≡ b
cast_word_from_parts a b targets answers =
    let made : Handle → Bool → CastWord = λ target yes. record { target = target; yes = yes } in
    let first : a ≡ made b.target a.yes = ap (λ target. made target a.yes) targets in
    first ∙ ap (made b.target) answers

pub packed_cast-below : (w : CastWord) → CastWordInRange w → packed_cast w < 2 ^ 48
unfolding packed_cast
packed_cast-below w in_range = omega (arith, packed_handle-below w.target in_range, from_bool-below w.yes)

pub packed_cast-one_to_one : (a b : CastWord) → CastWordInRange a → CastWordInRange b →
    packed_cast a ≡ packed_cast b → a ≡ b
unfolding packed_cast
packed_cast-one_to_one a b of_a of_b same =
    let a_yes : from_bool a.yes < 2 = from_bool-below a.yes in
    let b_yes : from_bool b.yes < 2 = from_bool-below b.yes in
    cast_word_from_parts a b
    (packed_handle-one_to_one a.target b.target of_a of_b (omega arith))
    (from_bool-one_to_one a.yes b.yes (omega arith))

pub cast_packing-below : (word : ℕ) (w : CastWord) → IsCastPacking w word → word < 2 ^ 48
cast_packing-below word w p = omega (arith, packed_cast-below w p.in_range, p.packed)

pub cast_packing-one_to_one : (word : ℕ) (a b : CastWord) →
    IsCastPacking a word → IsCastPacking b word → a ≡ b
cast_packing-one_to_one word a b of_a of_b =
    packed_cast-one_to_one a b of_a.in_range of_b.in_range (cc)

-- the upper bits of a cast word are the packing of its target
pub cast_of_word : (word : ℕ) (target : Handle) → IsHandlePacking target (word / 2) →
    IsCastPacking (record { target = target; yes = nat_eq (word % 2) 1 }) word
unfolding packed_cast
cast_of_word word target p =
    let yes : from_bool (nat_eq (word % 2) 1) ≡ word % 2 = from_bool-test (word % 2) (omega arith) in
    let upper : word / 2 ≡ packed_handle target = p.packed in
    record { in_range = p.in_range; packed = omega arith }

pub target_of_cast : (word : ℕ) (w : CastWord) → IsCastPacking w word → IsHandlePacking w.target (word / 2)
unfolding packed_cast
target_of_cast word w p =
    let yes : from_bool w.yes < 2 = from_bool-below w.yes in
    let whole : word ≡ packed_cast w = p.packed in
    record { in_range = p.in_range; packed = omega arith }
