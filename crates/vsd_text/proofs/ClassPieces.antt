-- The piece that begins with a byte of a class.
use Rattle.std.proofs.Common.{◌≡◌, ℕ, List, [], ◌∷◌, true, false, refl, eqb, Err, arith}
use Rattle.std.specs.List.{prefix_len}
use Rattle.std.proofs.lemmas.Bool.{and_parts, not-true}
use Rattle.std.proofs.lemmas.Bool.Decides.{nat_tests}
use Rattle.vsd_text.specs.Bytes.{is_separator, is_line_feed, is_run_byte, is_printable, is_twin, is_opening, is_of_class}
use Rattle.vsd_text.specs.Tokens.{first_piece, token_piece, gap_piece, line_feeds}
use Rattle.vsd_text.specs.declared.bytes.ByteClass.TheVariants.{Letter, Digit, Symbol, Space, LineFeed, Bad}
use Rattle.vsd_text.specs.declared.tokens.TokenKind.TheVariants.{Word, Number, Symbol as OneByte}
use Rattle.vsd_text.specs.declared.tokens.LexError.TheVariants.{BadByte}
use Rattle.vsd_text.proofs.Classes.{letter_runs, digit_runs, letter_is_no_digit, printable_is_no_separator, separator_is_no_run_byte, run_byte_is_printable, line_feed_is_separator}

pub letter_piece : (line b : ℕ) (bs : List ℕ) → is_of_class Letter b ≡ true → first_piece line b bs ≡ token_piece Word (prefix_len is_run_byte bs)
unfolding first_piece is_of_class
letter_piece line b bs is = rw (letter_runs b is, letter_is_no_digit b is) refl

pub digit_piece : (line b : ℕ) (bs : List ℕ) → is_of_class Digit b ≡ true → first_piece line b bs ≡ token_piece Number (prefix_len is_run_byte bs)
unfolding first_piece is_of_class
digit_piece line b bs is = rw (digit_runs b is, is) refl

record IsLoneSymbol (b : ℕ) : Type 0 where
  printable : is_printable b ≡ true
  no_run : is_run_byte b ≡ false
  no_twin : is_twin b ≡ false
  no_opening : is_opening b ≡ false

lone_symbol : (b : ℕ) → is_of_class Symbol b ≡ true → IsLoneSymbol b
unfolding is_of_class
lone_symbol b is = record {
  printable = grind (arith, nat_tests);
  no_run = grind (arith, nat_tests);
  no_twin = grind (arith, nat_tests);
  no_opening = grind (arith, nat_tests);
}

pub symbol_piece : (line b : ℕ) (bs : List ℕ) → is_of_class Symbol b ≡ true → first_piece line b bs ≡ token_piece (OneByte b) 0
unfolding first_piece is_twin is_opening
symbol_piece line b bs is =
    let sign = lone_symbol b is in
    let no_quote : eqb b 39 ≡ false = grind (arith, nat_tests, sign.no_opening) in
    let no_text : eqb b 34 ≡ false = grind (arith, nat_tests, sign.no_opening) in
    let no_slash : eqb b 47 ≡ false = grind (arith, nat_tests, sign.no_opening) in
    let no_colon : eqb b 58 ≡ false = grind (arith, nat_tests, sign.no_twin) in
    let no_percent : eqb b 37 ≡ false = grind (arith, nat_tests, sign.no_twin) in
    rw (sign.no_run, printable_is_no_separator b sign.printable, no_quote, no_text, no_slash, no_colon, no_percent, sign.printable) refl

separator_piece : (line b : ℕ) (bs : List ℕ) → is_separator b ≡ true → first_piece line b bs ≡ gap_piece 0
unfolding first_piece
separator_piece line b bs separates = rw (separator_is_no_run_byte b separates, separates) refl

pub space_piece : (line b : ℕ) (bs : List ℕ) → is_of_class Space b ≡ true → first_piece line b bs ≡ gap_piece 0
unfolding is_of_class
space_piece line b bs is = separator_piece line b bs (and_parts _ _ is).0

pub space_feeds : (b : ℕ) → is_of_class Space b ≡ true → line_feeds (b ∷ []) ≡ 0
unfolding is_of_class
space_feeds b is =
    let none : is_line_feed b ≡ false = not-true (is_line_feed b) (and_parts _ _ is).1 in
    rw none refl

pub line_feed_piece : (line b : ℕ) (bs : List ℕ) → is_of_class LineFeed b ≡ true → first_piece line b bs ≡ gap_piece 0
unfolding is_of_class
line_feed_piece line b bs is = separator_piece line b bs (line_feed_is_separator b is)

pub line_feed_feeds : (b : ℕ) → is_of_class LineFeed b ≡ true → line_feeds (b ∷ []) ≡ 1
unfolding is_of_class
line_feed_feeds b is = rw is refl

record IsLoneBad (b : ℕ) : Type 0 where
  unprintable : is_printable b ≡ false
  no_separator : is_separator b ≡ false
  no_run : is_run_byte b ≡ false

lone_bad : (b : ℕ) → is_of_class Bad b ≡ true → IsLoneBad b
unfolding is_of_class
lone_bad b is = record {
  unprintable = grind (arith, nat_tests);
  no_separator = grind (arith, nat_tests);
  no_run = grind (arith, nat_tests, run_byte_is_printable);
}

pub bad_piece : (line b : ℕ) (bs : List ℕ) → is_of_class Bad b ≡ true → first_piece line b bs ≡ Err (BadByte line)
unfolding first_piece is_printable
bad_piece line b bs is =
    let bad = lone_bad b is in
    let no_quote : eqb b 39 ≡ false = grind (arith, nat_tests, bad.unprintable) in
    let no_text : eqb b 34 ≡ false = grind (arith, nat_tests, bad.unprintable) in
    let no_slash : eqb b 47 ≡ false = grind (arith, nat_tests, bad.unprintable) in
    let no_colon : eqb b 58 ≡ false = grind (arith, nat_tests, bad.unprintable) in
    let no_percent : eqb b 37 ≡ false = grind (arith, nat_tests, bad.unprintable) in
    rw (bad.no_run, bad.no_separator, no_quote, no_text, no_slash, no_colon, no_percent, bad.unprintable) refl
