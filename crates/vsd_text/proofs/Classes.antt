-- How the kinds of byte lie to each other.
use Rattle.std.proofs.Common.{◌≡◌, ℕ, true, false, refl, sym, ◌∙◌, ⊎_elim, arith}
use Rattle.std.proofs.lemmas.Bool.Decides.{nat_tests}
use Rattle.std.proofs.lemmas.Bool.{or_cases, or_left, or_right, false_from_ne_true, true≢false}
use Rattle.vsd_text.specs.Bytes.{is_separator, is_line_feed, is_digit, is_letter, is_run_byte, is_printable, is_twin, is_opening, is_of_class}
use Rattle.vsd_text.specs.declared.bytes.ByteClass.{ByteClass}
use Rattle.vsd_text.specs.declared.bytes.ByteClass.TheVariants.{Letter, Digit, Symbol, Space, LineFeed, Twin, Opening, Bad}

pub letter_runs : (b : ℕ) → is_letter b ≡ true → is_run_byte b ≡ true
unfolding is_run_byte
letter_runs b letter = or_left _ _ letter

pub digit_runs : (b : ℕ) → is_digit b ≡ true → is_run_byte b ≡ true
unfolding is_run_byte
digit_runs b digit = or_right _ _ digit

pub digit_is_no_separator : (b : ℕ) → is_digit b ≡ true → is_separator b ≡ false
unfolding is_digit is_separator
digit_is_no_separator b digit = grind (arith, nat_tests)

pub printable_is_no_separator : (b : ℕ) → is_printable b ≡ true → is_separator b ≡ false
unfolding is_printable is_separator
printable_is_no_separator b digit = grind (arith, nat_tests)

pub letter_is_printable : (b : ℕ) → is_letter b ≡ true → is_printable b ≡ true
unfolding is_printable is_letter
letter_is_printable b letter = grind (arith, nat_tests)

pub digit_is_printable : (b : ℕ) → is_digit b ≡ true → is_printable b ≡ true
unfolding is_printable is_digit
digit_is_printable b digit = grind (arith, nat_tests)

pub letter_is_no_digit : (b : ℕ) → is_letter b ≡ true → is_digit b ≡ false
unfolding is_letter is_digit
letter_is_no_digit b letter = grind (arith, nat_tests)

pub run_byte_is_printable : (b : ℕ) → is_run_byte b ≡ true → is_printable b ≡ true
unfolding is_run_byte
run_byte_is_printable b runs = ⊎_elim (letter_is_printable b) (digit_is_printable b) (or_cases (is_letter b) (is_digit b) runs)

pub separator_is_no_run_byte : (b : ℕ) → is_separator b ≡ true → is_run_byte b ≡ false
separator_is_no_run_byte b separates =
    false_from_ne_true (is_run_byte b) (λ runs. true≢false (sym separates ∙ printable_is_no_separator b (run_byte_is_printable b runs)))

pub line_feed_is_separator : (b : ℕ) → is_line_feed b ≡ true → is_separator b ≡ true
unfolding is_separator is_line_feed
line_feed_is_separator b feeds = grind (arith, nat_tests)

twin_is_no_run_byte : (b : ℕ) → is_twin b ≡ true → is_run_byte b ≡ false
unfolding is_twin is_run_byte is_letter is_digit
twin_is_no_run_byte b twin = grind (arith, nat_tests)

opening_is_no_run_byte : (b : ℕ) → is_opening b ≡ true → is_run_byte b ≡ false
unfolding is_opening is_run_byte is_letter is_digit
opening_is_no_run_byte b opens = grind (arith, nat_tests)

-- a byte of a run is a letter or a digit
pub no_run_by_class : (class : ByteClass) (b : ℕ) → is_of_class class b ≡ true → (class ≡ Letter → ⊥) → (class ≡ Digit → ⊥) → is_run_byte b ≡ false
unfolding is_of_class
no_run_by_class Letter b is no_letter no_digit = absurd (no_letter refl)
no_run_by_class Digit b is no_letter no_digit = absurd (no_digit refl)
no_run_by_class Symbol b is no_letter no_digit = grind (arith, nat_tests)
no_run_by_class Space b is no_letter no_digit = grind (arith, nat_tests, separator_is_no_run_byte)
no_run_by_class LineFeed b is no_letter no_digit = grind (arith, nat_tests, separator_is_no_run_byte, line_feed_is_separator)
no_run_by_class Twin b is no_letter no_digit = twin_is_no_run_byte b is
no_run_by_class Opening b is no_letter no_digit = opening_is_no_run_byte b is
no_run_by_class Bad b is no_letter no_digit = grind (arith, nat_tests, run_byte_is_printable)
