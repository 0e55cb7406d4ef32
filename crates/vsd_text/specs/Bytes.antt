-- The kinds of byte.
use Rattle.std.specs.Prelude.{ℕ, Bool, ◌==◌, ◌&&◌, ◌||◌, nat_le, not}
use Rattle.vsd_text.specs.declared.bytes.ByteClass.{ByteClass}
use Rattle.vsd_text.specs.declared.bytes.ByteClass.TheVariants.{Letter, Digit, Symbol, Space, LineFeed, Twin, Opening, Bad}

-- tab, line feed, carriage return or space
unfoldable pub is_separator : ℕ → Bool
is_separator b = b == 9 || b == 10 || b == 13 || b == 32

unfoldable pub is_line_feed : ℕ → Bool
is_line_feed b = b == 10

unfoldable pub is_digit : ℕ → Bool
is_digit b = nat_le 48 b && nat_le b 57

-- A to Z or a to z, or one of `_ $ @ ? .` and the back quote
unfoldable pub is_letter : ℕ → Bool
is_letter b =
    nat_le 65 b && nat_le b 90 || nat_le 97 b && nat_le b 122
    || b == 95 || b == 36 || b == 64 || b == 63 || b == 46 || b == 96

-- a byte that may stand in a Word or a Number
unfoldable pub is_run_byte : ℕ → Bool
is_run_byte b = is_letter b || is_digit b

-- a byte that may stand between single quotes: all from 32 to 126 but the quote and the backslash
unfoldable pub is_quoted_byte : ℕ → Bool
is_quoted_byte b = nat_le 32 b && nat_le b 38 || nat_le 40 b && nat_le b 91 || nat_le 93 b && nat_le b 126

-- any byte but a line feed
unfoldable pub is_line_byte : ℕ → Bool
is_line_byte b = not (is_line_feed b)

-- a byte that may stand in a token: one of the printable bytes
unfoldable pub is_printable : ℕ → Bool
is_printable b = nat_le 33 b && nat_le b 126

-- a byte of which two may make one token: `:` or `%`
unfoldable pub is_twin : ℕ → Bool
is_twin b = b == 58 || b == 37

-- a byte that opens a quote or may open a comment: a quote or `/`
unfoldable pub is_opening : ℕ → Bool
is_opening b = b == 39 || b == 34 || b == 47

-- the byte is of this class
unfoldable pub is_of_class : ByteClass → ℕ → Bool
is_of_class Letter b = is_letter b
is_of_class Digit b = is_digit b
is_of_class Symbol b = is_printable b && not (is_run_byte b || is_twin b || is_opening b)
is_of_class Space b = is_separator b && not (is_line_feed b)
is_of_class LineFeed b = is_line_feed b
is_of_class Twin b = is_twin b
is_of_class Opening b = is_opening b
is_of_class Bad b = not (is_printable b || is_separator b)
